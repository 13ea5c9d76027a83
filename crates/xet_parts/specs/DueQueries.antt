-- What taking the query that is due does to a manager and to the signal.
use Rattle.std.specs.Prelude.{ℕ, ◌≡◌, ◌⊎◌, ◌+◌, false, true, [], Option, Some, None, MatchOption, Result, IfOk, IfErr}
use Rattle.std.specs.Prelude.{slice_get}
use Rattle.xet_outside.specs.Told.{AskCall, SignalTold}
use Rattle.xet_error.specs.declared.error.FileReconstructionError.{FileReconstructionError}
use Rattle.xet_error.specs.declared.error.FileReconstructionError.TheVariants as error
use Rattle.xet_terms.specs.declared.manager.PlanDue.{PlanDue}
use Rattle.xet_terms.specs.Managers.{IsCovered, IsManager, Manager, looked_ahead}

-- none is scheduled after a look ahead, and the signal wasn't asked
pub record NoneDue (m now : Manager) (before after : SignalTold) : Type 0 where
  pub policy : ℕ
  pub is : now ≡ looked_ahead m policy
  pub none : slice_get now.queries now.asked ≡ None
  pub signal : after ≡ before
  pub kept : IsManager now
  -- where each query that was asked has its answer and no plan waits, the range is asked up to the known end
  pub covered : IsManager m → now.answered ≡ now.asked → now.waiting ≡ [] → IsCovered now

-- this one is, which counts as asked from now on
pub record TakesDue (m now : Manager) (d : PlanDue) : Type 0 where
  pub policy : ℕ
  pub looked : Manager
  pub is : looked ≡ looked_ahead m policy
  pub due : slice_get looked.queries looked.asked ≡ Some d.query
  pub id : d.id ≡ record { plan = looked.asked + 1; refresh = 0 }
  pub asked : now ≡ record looked { asked = looked.asked + 1 }
  pub kept : IsManager now

-- and the signal was asked once for it, and said no
pub record OneDue (m now : Manager) (before after : SignalTold) (d : PlanDue) : Type 0 where
  pub takes : TakesDue m now d
  pub signal : AskCall before after false

-- or it said yes
pub record CancelledDue (m now : Manager) (before after : SignalTold) : Type 0 where
  pub due : PlanDue
  pub takes : TakesDue m now due
  pub signal : AskCall before after true

-- a look ahead that found no memory, or a yes
abbrev pub DueFails : Manager → Manager → SignalTold → SignalTold → FileReconstructionError → Type 0
DueFails m now before after e =
    ((e ≡ error.OutOfMemory) × (now ≡ m) × (after ≡ before))
    ⊎ ((e ≡ error.Cancelled) × CancelledDue m now before after)

-- one call of `next_due`
pub record NextDueCall (m now : Manager) (before after : SignalTold)
    (answer : Result (Option PlanDue) FileReconstructionError) : Type 0 where
  pub ok : IfOk answer (λ o. MatchOption o (NoneDue m now before after) (OneDue m now before after))
  pub err : IfErr answer (DueFails m now before after)
