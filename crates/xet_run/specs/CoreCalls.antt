-- What the calls of a core do to its history.
use Rattle.std.specs.Prelude.{◌≡◌, List, [], ◌∷◌, ◌++◌, Result, Err, OnOk, OnErr}
use Rattle.xet_events.specs.declared.event.Event.{Event}
use Rattle.xet_events.specs.declared.core_refusal.CoreRefusal.{CoreRefusal}
use Rattle.xet_events.specs.declared.core_refusal.CoreRefusal.TheVariants.{NotAllowed}
use Rattle.xet_events.specs.Allowed.{IsAllowed}

-- a call that adds an event to a core's history where it is allowed, and else changes nothing
pub record Adds (before after : List Event) (e : Event) (answer : Result (Unit {0}) CoreRefusal) : Type 0 where
  pub allowed : OnOk answer (IsAllowed before e)
  pub added : OnOk answer (after ≡ before ++ e ∷ [])
  pub refused : answer ≡ Err NotAllowed → IsAllowed before e → ⊥
  pub kept : OnErr answer (after ≡ before)
