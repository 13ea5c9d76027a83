-- What an event call answers.
use Rattle.std.proofs.Common.{◌≡◌, ◌++◌, ◌∷◌, [], List}
use Rattle.std.specs.Prelude.{Err, Ok, Result}
use Rattle.xet_events.specs.declared.event.Event.{Event}
use Rattle.xet_events.specs.declared.core_refusal.CoreRefusal.{CoreRefusal}
use Rattle.xet_events.specs.declared.core_refusal.CoreRefusal.TheVariants.{NotAllowed, OutOfMemory}
use Rattle.xet_events.specs.Allowed.{IsAllowed}
use Rattle.xet_run.specs.CoreCalls.{Adds}

-- where an allocation was refused the history is as it was
pub no_memory : (es after : List Event) (e : Event) (r : Result (Unit {0}) CoreRefusal) → r ≡ Err OutOfMemory → after ≡ es → Adds es after e r
no_memory es after e r h same = rw h (record {
  allowed = tt;
  added = tt;
  refused = λ d _. cc;
  kept = same;
})

-- so it is where the event isn't allowed
pub not_allowed : (es after : List Event) (e : Event) (r : Result (Unit {0}) CoreRefusal) → r ≡ Err NotAllowed → (IsAllowed es e → ⊥) → after ≡ es → Adds es after e r
not_allowed es after e r h never same = rw h (record {
  allowed = tt;
  added = tt;
  refused = λ _ a. never a;
  kept = same;
})

-- an event that is allowed is added
pub is_added : (es after : List Event) (e : Event) (r : Result (Unit {0}) CoreRefusal) → r ≡ Ok tt → IsAllowed es e → after ≡ es ++ e ∷ [] → Adds es after e r
is_added es after e r h allowed added = rw h (record {
  allowed = allowed;
  added = added;
  refused = λ d _. cc;
  kept = tt;
})
