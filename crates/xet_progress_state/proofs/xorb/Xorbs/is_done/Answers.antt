use Rattle.std.proofs.Common.{rules, ◌≡◌, List, ◌∙◌, sym, ap, false, Some, None}
use Rattle.std.specs.Prelude.{Option, position, option_map, unwrap_or}
use Rattle.xet_base.specs.Hashes.{hash_eq}
use Rattle.xet_progress_state.specs.declared.xorb.TrackedXorb.{TrackedXorb}
use Rattle.xet_progress_state.proofs.Places.{find_here, find_nothing}
use Rattle.xet_progress_state.proofs.xorb.Xorbs.is_done.Goals as goal

pub returns-in_default : goal.returns-in_default
returns-in_default c =
    let none : position (λ (x : TrackedXorb). hash_eq x.hash c.args.hash.now) c.args.self.now ≡ None = search rules in
    sym (ap (λ (o : Option TrackedXorb). unwrap_or (option_map (λ x. x.completed) o) false) (find_nothing (λ (x : TrackedXorb). hash_eq x.hash c.args.hash.now) c.args.self.now none))

pub returns : goal.returns
returns c =
    let some : position (λ (x : TrackedXorb). hash_eq x.hash c.args.hash.now) c.self.inside.list.items ≡ Some c.in-Some.place =
    ap (λ (l : List TrackedXorb). position (λ (x : TrackedXorb). hash_eq x.hash c.args.hash.now) l) c.self.view_is ∙ search rules in
    let found = find_here (λ (x : TrackedXorb). hash_eq x.hash c.args.hash.now) c.self.inside.list.items c.in-Some.place c.index.result.now some in
    rw (← c.self.view_is) (ap (λ (x : TrackedXorb). x.completed) c.index.ensures ∙ sym (ap (λ (o : Option TrackedXorb). unwrap_or (option_map (λ x. x.completed) o) false) found.0))
