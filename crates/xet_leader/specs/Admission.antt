-- What admitting the terms of a run does to its leader.
use Rattle.std.specs.Prelude.{ℕ, ◌≡◌, ◌+◌, ◌-◌, List, Result, OnOk, IfErr, min}
use Rattle.xet_error.specs.declared.error.FileReconstructionError.{FileReconstructionError}
use Rattle.xet_events.specs.declared.event.Event.{Event}
use Rattle.xet_events.specs.Limits.{LimitTold}
use Rattle.xet_parts.specs.Admissions.{AdmitsErr, AdmitsOk}
use Rattle.xet_ties.specs.Setup.{Setup}
use Rattle.xet_leader.specs.Led.{Led}
use Rattle.xet_leader.specs.Steady.{LeadPart, Loose, Moment}

-- how many terms are admitted at once at most
abbrev pub most_at_once : ℕ
most_at_once = 8192

-- of so many terms that wait these may be admitted at once
abbrev pub at_once : ℕ → ℕ
at_once waiting = min waiting most_at_once

-- as many terms are planned and admitted
pub record SameCounts (l k : Led) : Type 0 where
  pub planned_is : k.planned ≡ l.planned
  pub admitted_is : k.admitted ≡ l.admitted

-- of the terms that might be admitted at once so many are left
pub record AdmittedTerms (before after : LimitTold) (es fs : List Event) (l k : Led) : Type 0 where
  pub left : ℕ
  pub admits : AdmitsOk before after es fs (at_once (l.planned - l.admitted)) left
  pub led : k ≡ record l { admitted = l.admitted + (at_once (l.planned - l.admitted) - left) }

-- memory was wanting
pub record AdmitFails (before after : LimitTold) (es fs : List Event) (l k : Led)
    (e : FileReconstructionError) : Type 0 where
  pub admits : AdmitsErr before after es fs e
  pub led : k ≡ l

-- one call of `admit`
pub record AdmitTurn (before after : LimitTold) (es fs : List Event) (l k : Led)
    (answer : Result (Unit {0}) FileReconstructionError) : Type 0 where
  pub ok : OnOk answer (AdmittedTerms before after es fs l k)
  pub err : IfErr answer (AdmitFails before after es fs l k)

-- over the moment of a run of which these are the limits and events: it goes on, or is to stop
abbrev pub AdmitLeads : LimitTold → LimitTold → List Event → List Event → Led → Led
    → Result (Unit {0}) FileReconstructionError → Type 0
AdmitLeads before after es fs l k answer = (g : Setup) (m : Moment) (o : Loose) → m.told.limits ≡ before
    → m.events ≡ es → LeadPart g m (record { told = record m.told { limits = after }; events = fs }) o o l k answer
