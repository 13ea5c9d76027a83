-- A run where memory to record what was admitted was refused.
use Rattle.std.proofs.Common.{◌≡◌, Bool, List, Ok, Err}
use Rattle.xet_outside.specs.Told.{ClientTold, SignalTold}
use Rattle.xet_error.specs.declared.error.FileReconstructionError.{FileReconstructionError}
use Rattle.xet_error.specs.declared.error.FileReconstructionError.TheVariants as error
use Rattle.xet_events.specs.declared.event.Event.{Event}
use Rattle.xet_events.specs.Limits.{LimitTold}
use Rattle.xet_leader.specs.declared.leader.Job.{Job}
use Rattle.xet_leader.specs.Led.{Led, setup_of_job}
use Rattle.xet_leader.specs.Steady.{Moment, no_loose}
use Rattle.xet_stages.specs.TurnStarts.{StartLeads}
use Rattle.xet_leader.proofs.CallerLemmas.{memory_fails}

-- after asking and admitting
pub start_refused : (j : Job) (cs ns : List ClientTold) (x y : SignalTold) (before after : LimitTold)
    (es fs : List Event) (l k : Led) (all : Bool) (e : FileReconstructionError) → e ≡ error.OutOfMemory
    → StartLeads j cs ns x y before after es fs l k (Ok all) → StartLeads j cs ns x y before after es fs l k (Err e)
start_refused j cs ns x y before after es fs l k all e memory leads m at seen lim is =
    let g = setup_of_job j in
    let n : Moment = record { told = record m.told { clients = ns; signal = y; limits = after }; events = fs } in
    let c = leads m at seen lim is in
    record {
      part = record { ok = λ b s. tt; err = λ b s. memory_fails g b n no_loose k e memory (c.part.ok b s) };
      same = tt;
      done = λ b s. tt;
      work = λ b s. tt;
      waits = c.waits;
      few = tt;
    }
