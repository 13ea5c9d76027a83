-- How a run ends: its writer is ended, or its error is recorded.
use Rattle.std.specs.Prelude.{ℕ, ◌≡◌, ◌<◌, ◌≤◌, List, length, option_map, Result, Ok, Err, OnOk, IfOk, IfErr}
use Rattle.xet_base.specs.Store.{Store}
use Rattle.xet_outside.specs.Told.{SinkTold}
use Rattle.xet_error.specs.declared.error.FileReconstructionError.{FileReconstructionError}
use Rattle.xet_events.specs.declared.event.Event.{Event}
use Rattle.xet_events.specs.Events.{written}
use Rattle.xet_writers.specs.Calls.{SinkCause}
use Rattle.xet_writers.specs.Sequential.{FinishSequential, Sequential}
use Rattle.xet_parts.specs.Stops.{IsStopped}
use Rattle.xet_ties.specs.RunCalls.{IsCancelled, IsFinished, RunTies, Unfailed, stop_of}
use Rattle.xet_ties.specs.Setup.{CacheTells, IsOver, RunTold, Setup}
use Rattle.xet_leader.specs.Led.{Led}
use Rattle.xet_leader.specs.Plans.{Answer}
use Rattle.xet_leader.specs.Steady.{IsFailing, IsSteady, Moment, no_loose}

-- what a run answers: the bytes that were written, or its error
abbrev pub RunAnswer : Type 0
RunAnswer = Result ℕ FileReconstructionError

-- the last call of a sink takes nothing more: on Ok all is flushed, no call failed and the answer is this count, else
-- the error has its cause
pub record LastCall (before after : SinkTold) (count : ℕ) (answer : RunAnswer) : Type 0 where
  pub count_is : IfOk answer (λ k. k ≡ count)
  pub flushed : OnOk answer (after.flushed ≡ option_map length after.took)
  pub took : after.took ≡ before.took
  pub cause : IfErr answer (SinkCause before.faults after.faults)
  pub link : after.link ≡ before.link
  pub faults : before.faults ≤ after.faults
  pub unfailed : OnOk answer (after.faults ≡ before.faults)

-- where the loop answered Ok the writer is ended; else it is as before, and the error stays
pub record WriterEnd {S : Type 0} (told : S → SinkTold) (v w : Sequential S) (led : Answer)
    (answer : RunAnswer) : Type 0 where
  pub ends : OnOk led (FinishSequential told v w answer)
  pub keeps : IfErr led (λ e. (answer ≡ Err e) × (w ≡ v))

-- an error was recorded and answered, or memory was wanting for that
pub record EndFails (es fs : List Event) (e : FileReconstructionError) (answer : RunAnswer) : Type 0 where
  pub error : FileReconstructionError
  pub is : answer ≡ Err error
  pub stopped : IsStopped es fs e error

-- what came of a run is answered, and an error recorded before
pub record RecordedEnd (es fs : List Event) (ended answer : RunAnswer) : Type 0 where
  pub ok : IfOk ended (λ k. (answer ≡ Ok k) × (fs ≡ es))
  pub err : IfErr ended (λ e. EndFails es fs e answer)

-- one call of `end_run`
pub record EndTurn {S : Type 0} (told : S → SinkTold) (v w : Sequential S) (es fs : List Event) (led : Answer)
    (answer : RunAnswer) : Type 0 where
  pub ended : RunAnswer
  pub writer : WriterEnd told v w led ended
  pub records : RecordedEnd es fs ended answer

-- what the contract of a run says of its end
pub record RunEnds (g : Setup) (b : RunTold) (n : Moment) (answer : RunAnswer) : Type 0 where
  pub tied : RunTies g b n.told n.events (stop_of answer)
  pub finished : IfOk answer (IsFinished g n.events)
  pub flushed : OnOk answer (n.told.sink.flushed ≡ option_map length n.told.sink.took)
  pub cancelled : b.signal.yes < n.told.signal.yes → IsCancelled answer
  pub unfailed : Unfailed b.sink.faults n.told.sink.faults answer
  pub cache_later : (s : Store) → IsOver s b.clients → CacheTells s b.cache → CacheTells s n.told.cache

-- over any start: a steady run whose loop is done ends so, and a run that is to stop with the loop's error
pub record EndCall {S : Type 0} (told : S → SinkTold) (g : Setup) (m n : Moment) (v : Sequential S) (led : Answer)
    (answer : RunAnswer) : Type 0 where
  pub ok : (b : RunTold) (l : Led) → IsSteady told g b m no_loose l v → IsFinished g m.events (written m.events)
      → OnOk led (RunEnds g b n answer)
  pub err : (b : RunTold) → IfErr led (λ e. IsFailing g b m e → RunEnds g b n answer)

-- over the moment of a run of which these are the writer's sink and the events
abbrev pub EndLeads : {S : Type 0} → (S → SinkTold) → Sequential S → Sequential S → List Event → List Event → Answer
    → RunAnswer → Type 0
EndLeads told v w es fs led answer = (g : Setup) (m : Moment) → m.told.sink ≡ told v.sink → m.events ≡ es
    → EndCall told g m (record { told = record m.told { sink = told w.sink }; events = fs }) v led answer
