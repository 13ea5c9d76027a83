use Rattle.std.proofs.Common.{◌≡◌, List, ◌∙◌, ap, None, Some, get_or, rules}
use Rattle.std.specs.Prelude.{Option, option_and_then, position}
use Rattle.xet_base.specs.Hashes.{hash_eq}
use Rattle.xet_progress_state.specs.declared.xorb.TrackedXorb.{TrackedXorb}
use Rattle.xet_progress_state.proofs.Places.{find_here, find_nothing}
use Rattle.xet_progress_state.proofs.xorb.Xorbs.find.Goals as goal

pub returns-in_err-place-clause-none : goal.returns-in_err-place-clause-none
returns-in_err-place-clause-none c =
    let none : position (λ (x : TrackedXorb). hash_eq x.hash c.args.hash.now) c.args.self.now ≡ None = search rules in
    rw c.from_residual.ensures (ap (λ (o : Option TrackedXorb). option_and_then (λ x. x.size) o) (find_nothing (λ (x : TrackedXorb). hash_eq x.hash c.args.hash.now) c.args.self.now none))

pub returns-in_err-xorb-clause-none : goal.returns-in_err-xorb-clause-none
returns-in_err-xorb-clause-none c =
    let some : position (λ (x : TrackedXorb). hash_eq x.hash c.args.hash.now) c.self.inside.list.items ≡ Some c.in_ok-place.place =
    ap (λ (l : List TrackedXorb). position (λ (x : TrackedXorb). hash_eq x.hash c.args.hash.now) l) c.self.view_is ∙ search rules in
    let found = find_here (λ (x : TrackedXorb). hash_eq x.hash c.args.hash.now) c.self.inside.list.items c.in_ok-place.place c.index-xorb.result.now some in
    let none : (get_or c.self.inside.list.items c.in_ok-place.place c.index-xorb.result.now).size ≡ None = search rules in
    rw (c.from_residual-in_err-xorb.ensures, ← c.self.view_is) (ap (λ (o : Option TrackedXorb). option_and_then (λ x. x.size) o) found.0 ∙ none)
