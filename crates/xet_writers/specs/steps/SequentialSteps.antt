-- The steps of the writer in order.
use Rattle.std.specs.Prelude.{ℕ, ◌≡◌, ◌≤◌, length, true, Some, option_map, Result, IfOk, IfErr, OnErr, OnOk}
use Rattle.xet_outside.specs.Told.{SinkTold}
use Rattle.xet_error.specs.declared.error.FileReconstructionError.{FileReconstructionError}
use Rattle.xet_queue.specs.Calls.{SinkCause}
use Rattle.xet_writers.specs.Sequential.{Sequential, Ended, NotEnded}

-- the sink was flushed, and the writer is finished
pub record Flushed {S : Type 0} (told : S → SinkTold) (before after : Sequential S)
    (answer : Result ℕ FileReconstructionError) : Type 0 where
  pub took : (told after.sink).took ≡ (told before.sink).took
  pub done : IfOk answer (λ k. (after ≡ record before { sink = after.sink; finished = true }) × (k ≡ before.delivered)
      × ((told after.sink).flushed ≡ option_map length (told after.sink).took))
  pub failed : IfErr answer (λ e. (after ≡ record before { sink = after.sink; kept = Some e })
      × SinkCause (told before.sink).faults (told after.sink).faults e)
  pub unflushed : OnErr answer ((told after.sink).flushed ≡ (told before.sink).flushed)
  pub link : (told after.sink).link ≡ (told before.sink).link
  pub faults : (told before.sink).faults ≤ (told after.sink).faults
  pub unfailed : OnOk answer ((told after.sink).faults ≡ (told before.sink).faults)

-- all that was left was written and flushed
pub record Last {S : Type 0} (told : S → SinkTold) (before after : Sequential S)
    (answer : Result ℕ FileReconstructionError) : Type 0 where
  pub done : IfOk answer (Ended told before after)
  pub part : IfErr answer (NotEnded told before after)
  pub unflushed : OnErr answer ((told after.sink).flushed ≡ (told before.sink).flushed)
  pub link : (told after.sink).link ≡ (told before.sink).link
  pub faults : (told before.sink).faults ≤ (told after.sink).faults
