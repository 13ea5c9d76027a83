-- What the loops of the writer in order leave.
use Rattle.std.specs.Prelude.{ℕ, ◌≡◌, ◌<◌, ◌≤◌, drop, length, take, Result, OnOk, OnErr}
use Rattle.xet_outside.specs.declared.sink.SinkError.{SinkError}
use Rattle.xet_outside.specs.Told.{SinkTold}
use Rattle.xet_queue.specs.Pieces.{WrotePieces}
use Rattle.xet_queue.specs.Queues.{ready}
use Rattle.xet_queue.specs.Sequential.{Sequential, Passed}
use Rattle.xet_queue.specs.Sequential.{PassedAll}

-- the first terms, so many, were written by at most 24 pieces a write and left the queue, or a write failed, and those
-- of them left that were written wholly
pub record BatchCall {S : Type 0} (told : S → SinkTold) (before after : Sequential S) (terms count : ℕ)
    (answer : Result (Unit {0}) SinkError) : Type 0 where
  pub within : terms ≤ length (ready before.queue)
  pub some : 0 < length (ready before.queue) → 0 < terms
  pub wrote : WrotePieces 24 (told before.sink) (told after.sink) (take terms (ready before.queue)) count answer
  pub done : OnOk answer (Passed before after terms)
  pub left : OnOk answer (ready after.queue ≡ drop terms (ready before.queue))
  pub part : OnErr answer (PassedAll (record before { sink = after.sink }) after count)
  pub kept : after.kept ≡ before.kept

-- all ready terms were written, by at most so many pieces a write, or a write failed; those that were written wholly
-- left the queue
pub record SentReady {S : Type 0} (told : S → SinkTold) (most : ℕ) (before after : Sequential S) (count : ℕ)
    (answer : Result (Unit {0}) SinkError) : Type 0 where
  pub wrote : WrotePieces most (told before.sink) (told after.sink) (ready before.queue) count answer
  pub passed : PassedAll (record before { sink = after.sink }) after count
