use Rattle.std.proofs.Common.{rules, ◌≡◌, ◌∙◌, Some, None, true, false}
use Rattle.std.specs.BTreeMap.{get}
use Rattle.std.specs.Ordering.{is_eq}
use Rattle.xet_progress_state.proofs.Remembering.{first_is, none_is, other_is}
use Rattle.xet_progress_state.proofs.recent.Recent.look.Goals as goal

pub returns-in_default : goal.returns-in_default
returns-in_default g c =
    let e : c.args.self.now.first ≡ None = search rules in
    let got : c.copied.result ≡ get g.K.Ord.cmp c.args.self.now.numbers c.args.key.now = search rules in
    λ keys ix. got ∙ none_is g.met.K.Ord.total keys c.args.self.now c.args.key.now ix e

pub returns-then-is_eq : goal.returns-then-is_eq
returns-then-is_eq g c =
    let e : c.args.self.now.first ≡ Some c.in-Some.first = search rules in
    let h : is_eq (g.K.Ord.cmp c.in-Some.first c.args.key.now) ≡ true = search rules in
    λ keys ix. first_is g.met.K.Ord.total keys c.args.self.now c.in-Some.first c.args.key.now ix e h

pub returns : goal.returns
returns g c =
    let e : c.args.self.now.first ≡ Some c.in-Some.first = search rules in
    let h : is_eq (g.K.Ord.cmp c.in-Some.first c.args.key.now) ≡ false = search rules in
    let got : c.copied-2.result ≡ get g.K.Ord.cmp c.args.self.now.numbers c.args.key.now = search rules in
    λ keys ix. got ∙ other_is g.met.K.Ord.total keys c.args.self.now c.in-Some.first c.args.key.now ix e h
