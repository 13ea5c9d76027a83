-- The calls of the writer that writes in order.
use Rattle.std.specs.Prelude.{ℕ, ◌≡◌, ◌⊎◌, ◌+◌, ◌≤◌, ◌++◌, length, List, [], ◌∷◌, take, true, Option}
use Rattle.std.specs.Prelude.{Some, None, option_map, Result, Err, IfOk, IfErr, OnErr, OnOk}
use Rattle.std.specs.List.{concat}
use Rattle.xet_base.specs.declared.cas_types.FileRange.{FileRange}
use Rattle.xet_run.specs.Budgets.{Admission}
use Rattle.xet_outside.specs.Told.{SinkTold, Took, TookPrefix}
use Rattle.xet_blocks.specs.declared.reconstruction_terms.file_term.DataSource.{DataSource}
use Rattle.xet_blocks.specs.declared.reconstruction_terms.file_term.DataSource.TheVariants.{Ready, Wanted}
use Rattle.xet_error.specs.declared.error.FileReconstructionError.{FileReconstructionError}
use Rattle.xet_error.specs.declared.error.FileReconstructionError.TheVariants as error
use Rattle.xet_queue.specs.Calls.{WriterSums, Refused, Accepted, SinkCause, closed_by, set_fault}
use Rattle.xet_queue.specs.Calls.{supply_fault, finish_fault}
use Rattle.xet_queue.specs.Pieces.{StoppedAt, TookAtLeast}
use Rattle.xet_queue.specs.Queues.{admissions, ready, ready_bytes, supplied, wanted}
use Rattle.xet_queue.specs.Sequential.{Passed, most_pieces}
pub use Rattle.xet_queue.specs.Sequential.{Sequential, told_of}

-- what it adds up as every writer does: each term starts where the one before it ends, so the next place is their bytes
abbrev pub sums_of : {S : Type 0} → (S → SinkTold) → Sequential S → WriterSums
sums_of told w = record { bytes = w.expected; faults = (told w.sink).faults }

abbrev pub keeping : {S : Type 0} → Sequential S → Option FileReconstructionError → Sequential S
keeping w e = record w { kept = e }

-- the bytes of a source
abbrev pub bytes_in : DataSource → Option (List ℕ)
bytes_in (Ready bytes) = Some bytes
bytes_in (Wanted block) = None

-- a term at the end of the queue
abbrev pub queued : {S : Type 0} → Sequential S → FileRange → Option Admission → DataSource → Sequential S
queued w r a s = record w {
  queue = w.queue ++ record { byte_range = r; admission = a; bytes = bytes_in s } ∷ [];
  expected = r.end;
}

-- one call of `set_next_term_data_source`
pub record SetSequential {S : Type 0} (before after : Sequential S) (range : FileRange)
    (admission : Option Admission) (source : DataSource)
    (answer : Result (Unit {0}) FileReconstructionError) : Type 0 where
  pub refused : Refused told_of keeping before after (set_fault (Some before.expected) range source) answer
  pub accepted : Accepted told_of before after (set_fault (Some before.expected) range source)
      (queued before range admission source) answer

-- one call of `supply`
pub record SupplySequential {S : Type 0} (before after : Sequential S) (start : ℕ) (bytes : List ℕ)
    (answer : Result (Unit {0}) FileReconstructionError) : Type 0 where
  pub refused : Refused told_of keeping before after (supply_fault (wanted before.queue) start bytes) answer
  pub accepted : Accepted told_of before after (supply_fault (wanted before.queue) start bytes)
      (record before { queue = supplied start bytes before.queue }) answer

-- all that is ready was written, so many bytes, and no write failed
pub record WroteAll {S : Type 0} (told : S → SinkTold) (before after : Sequential S) (count : ℕ) : Type 0 where
  pub passed : Passed before after (length (ready before.queue))
  pub count_is : count ≡ length (ready_bytes before.queue)
  pub took : Took (told before.sink).took (told after.sink).took (ready_bytes before.queue)
  pub kept : after.kept ≡ before.kept
  pub unfailed : (told after.sink).faults ≡ (told before.sink).faults

-- a write failed, and the error is kept. The terms that were passed are those that answered writes took wholly, so
-- their admissions came back; of the ready bytes the sink took none out of order, and past these terms none but of the
-- pieces that the failed write was handed
pub record WrotePart {S : Type 0} (told : S → SinkTold) (before after : Sequential S)
    (e : FileReconstructionError) : Type 0 where
  pub terms : ℕ
  pub passed : Passed before after terms
  pub took : TookAtLeast (told before.sink).took (told after.sink).took
      (length (concat (take terms (ready before.queue)))) (ready_bytes before.queue)
  pub stopped : StoppedAt (most_pieces before) (ready before.queue) terms took.count (e ≡ error.OutOfMemory)
  pub kept : after.kept ≡ Some e
  pub cause : SinkCause (told before.sink).faults (told after.sink).faults e

-- a write of what is ready
pub record Wrote {S : Type 0} (told : S → SinkTold) (before after : Sequential S)
    (answer : Result ℕ FileReconstructionError) : Type 0 where
  pub whole : IfOk answer (WroteAll told before after)
  pub part : IfErr answer (λ e. ((e ≡ error.OutOfMemory) × (after ≡ before)) ⊎ WrotePart told before after e)
  pub flushed : (told after.sink).flushed ≡ (told before.sink).flushed
  pub link : (told after.sink).link ≡ (told before.sink).link
  pub faults : (told before.sink).faults ≤ (told after.sink).faults

-- one call of `write_ready`
pub record ReadyCall {S : Type 0} (told : S → SinkTold) (before after : Sequential S)
    (answer : Result ℕ FileReconstructionError) : Type 0 where
  pub closed : (e : FileReconstructionError) → closed_by (told_of before) ≡ Some e → (answer ≡ Err e) × (after ≡ before)
  pub open_ : closed_by (told_of before) ≡ None → Wrote told before after answer

-- the same of the sink alone, where the writer is open and these are the bytes of its ready terms: what the leader of a
-- run needs beside the fetches of a round
pub record WindowCall (before after : SinkTold) (window : List ℕ)
    (answer : Result ℕ FileReconstructionError) : Type 0 where
  pub took : IfOk answer (λ k. Took before.took after.took window × (k ≡ length window))
  pub prefix : OnErr answer (TookPrefix before.took after.took window)
  pub cause : IfErr answer (SinkCause before.faults after.faults)
  pub flushed : after.flushed ≡ before.flushed
  pub link : after.link ≡ before.link
  pub faults : before.faults ≤ after.faults
  pub unfailed : OnOk answer (after.faults ≡ before.faults)

-- the end: all was written and flushed, no call failed, and the answer is the bytes of all terms
pub record Ended {S : Type 0} (told : S → SinkTold) (before after : Sequential S) (count : ℕ) : Type 0 where
  pub left : after ≡ record before {
    sink = after.sink;
    queue = [];
    released = before.released ++ admissions before.queue;
    delivered = count;
    finished = true;
  }
  pub count_is : count ≡ before.delivered + length (ready_bytes before.queue)
  pub all : count ≡ before.expected
  pub took : Took (told before.sink).took (told after.sink).took (ready_bytes before.queue)
  pub flushed : (told after.sink).flushed ≡ option_map length (told after.sink).took
  pub unfailed : (told after.sink).faults ≡ (told before.sink).faults

-- an end whose flush failed: all was written, each admission came back, and the error is kept
pub record Unflushed {S : Type 0} (told : S → SinkTold) (before after : Sequential S)
    (e : FileReconstructionError) : Type 0 where
  pub left : after ≡ record before {
    sink = after.sink;
    queue = [];
    released = before.released ++ admissions before.queue;
    delivered = before.expected;
    kept = Some e;
  }
  pub took : Took (told before.sink).took (told after.sink).took (ready_bytes before.queue)
  pub cause : SinkCause (told before.sink).faults (told after.sink).faults e

-- an end that failed: an allocation was refused, a write failed, or the flush did
abbrev pub NotEnded : {S : Type 0} → (S → SinkTold) → Sequential S → Sequential S → FileReconstructionError → Type 0
NotEnded told before after e = ((e ≡ error.OutOfMemory) × (after ≡ before)) ⊎ (WrotePart told before after e
    ⊎ Unflushed told before after e)

-- one call of `finish`
pub record FinishSequential {S : Type 0} (told : S → SinkTold) (before after : Sequential S)
    (answer : Result ℕ FileReconstructionError) : Type 0 where
  pub refused : Refused told_of keeping before after (finish_fault (wanted before.queue)) answer
  pub done : closed_by (told_of before) ≡ None → finish_fault (wanted before.queue) ≡ None
      → IfOk answer (Ended told before after)
  pub part : closed_by (told_of before) ≡ None → finish_fault (wanted before.queue) ≡ None
      → IfErr answer (NotEnded told before after)
  pub unflushed : OnErr answer ((told after.sink).flushed ≡ (told before.sink).flushed)
  pub link : (told after.sink).link ≡ (told before.sink).link
  pub faults : (told before.sink).faults ≤ (told after.sink).faults
