-- What asking for plans and admitting terms, at the start of a turn, do to a run.
use Rattle.std.specs.Prelude.{◌≡◌, ◌⊎◌, ◌+◌, ◌<◌, ◌≤◌, ◌==◌, ◌&&◌, Bool, true, false, not, List, Result, OnOk, IfOk}
use Rattle.xet_outside.specs.Told.{ClientTold, SignalTold}
use Rattle.xet_error.specs.declared.error.FileReconstructionError.{FileReconstructionError}
use Rattle.xet_events.specs.declared.event.Event.{Event}
use Rattle.xet_events.specs.Limits.{LimitTold}
use Rattle.xet_events.specs.Events.{written}
use Rattle.xet_ties.specs.RunCalls.{IsFinished}
use Rattle.xet_ties.specs.Setup.{RunTold, Setup}
use Rattle.xet_leader.specs.declared.leader.Job.{Job}
use Rattle.xet_leader.specs.Admission.{most_at_once}
use Rattle.xet_leader.specs.Led.{Led, setup_of_job}
use Rattle.xet_stages.specs.Measures.{measure}
use Rattle.xet_leader.specs.Steady.{IsGoing, LeadPart, Moment, no_loose}

-- nothing was asked, and all planned terms are written
abbrev pub all_done : Bool → Led → Bool
all_done asked l = not asked && l.finished == l.planned

-- less is left; or no more, and some admitted term isn't written
abbrev pub LeavesWork : Setup → List Event → List Event → Led → Led → Type 0
LeavesWork g es fs l k =
    (measure g fs k < measure g es l) ⊎ ((measure g fs k ≤ measure g es l) × (k.finished < k.admitted))

-- no connection was asked and no signal, and no plan was taken
pub record NothingAsked (m n : Moment) (l k : Led) : Type 0 where
  pub clients : n.told.clients ≡ m.told.clients
  pub signal : n.told.signal ≡ m.told.signal
  pub planned_is : k.planned ≡ l.planned

-- over any start, a run that goes on goes on after it, or is to stop with its error. It answers whether all is
-- finished; else there is work
pub record StartCall (g : Setup) (m n : Moment) (l k : Led)
    (answer : Result Bool FileReconstructionError) : Type 0 where
  pub part : LeadPart g m n no_loose no_loose l k answer
  pub same : OnOk answer (written n.events ≡ written m.events)
  pub done : (b : RunTold) → IsGoing g b m no_loose l
      → IfOk answer (λ all. all ≡ true → IsFinished g n.events (written n.events))
  pub work : (b : RunTold) → IsGoing g b m no_loose l
      → IfOk answer (λ all. all ≡ false → LeavesWork g m.events n.events l k)
  -- where planned terms wait nothing is asked, and few are admitted
  pub waits : l.admitted < l.planned → NothingAsked m n l k
  pub few : OnOk answer (k.admitted ≤ l.admitted + most_at_once)

-- so over the moment of a run of which these are the connections, signal, limits and events
abbrev pub StartLeads : Job → List ClientTold → List ClientTold → SignalTold → SignalTold → LimitTold → LimitTold
    → List Event → List Event → Led → Led → Result Bool FileReconstructionError → Type 0
StartLeads j cs ns x y before after es fs l k answer = (m : Moment) → m.told.clients ≡ cs → m.told.signal ≡ x
    → m.told.limits ≡ before → m.events ≡ es → StartCall (setup_of_job j) m
    (record { told = record m.told { clients = ns; signal = y; limits = after }; events = fs }) l k answer
