-- Events without an error, one after another.
use Rattle.std.proofs.Common.{◌≡◌, ℕ, refl, List, [], ◌∷◌, ◌++◌, Option, Some, None}
use Rattle.std.specs.Prelude.{map}
use Rattle.xet_base.specs.Lists.{first_some}
use Rattle.xet_events.specs.declared.event.Event.{Event}
use Rattle.xet_events.specs.Allowed.{IsRunning}
use Rattle.xet_events.specs.Events.{error_in}
use Rattle.xet_parts.specs.Admissions.{admits}

first_none : {A : Type 0} (o : Option A) (os ps : List (Option A)) → first_some (o ∷ os) ≡ None
    → (first_some os ≡ None → first_some ps ≡ None) → first_some (o ∷ ps) ≡ None
first_none None os ps h f = f h
first_none (Some x) os ps h f = h

pub running_both : (xs ys : List Event) → IsRunning xs → IsRunning ys → IsRunning (xs ++ ys)
running_both [] ys p q = q
running_both (e ∷ xs) ys p q =
    first_none (error_in e) (map error_in xs) (map error_in (xs ++ ys)) p (λ r. running_both xs ys r q)

pub admits_run : (ls : List ℕ) → IsRunning (admits ls)
admits_run [] = refl
admits_run (n ∷ ls) = admits_run ls

pub admits_running : (es : List Event) (ls : List ℕ) → IsRunning es → IsRunning (es ++ admits ls)
admits_running es ls r = running_both es (admits ls) r (admits_run ls)
