-- What a writer in order has: its terms before its sink.
use Rattle.std.specs.Prelude.{ℕ, ◌≡◌, ◌+◌, ◌≤◌, ◌++◌, cond, length, List, [], ◌∷◌, take, drop, Bool, Option, Some, None}
use Rattle.std.specs.List.{concat}
use Rattle.xet_run.specs.Budgets.{Admission}
use Rattle.xet_error.specs.declared.error.FileReconstructionError.{FileReconstructionError}
use Rattle.xet_queue.specs.declared.queued_term.QueuedTerm.{QueuedTerm}
use Rattle.xet_queue.specs.Calls.{WriterTold}
use Rattle.xet_queue.specs.Queues.{admissions, ready, wanted}
use Rattle.std.specs.Prelude.{◌<◌, get_or}
use Rattle.xet_queue.specs.Pieces.{bytes_before}
use Rattle.xet_queue.specs.Queues.{ready_bytes}

-- what contracts see of it: the sink; whether one write is handed many pieces; the terms that are not wholly written,
-- in order; the admissions of written terms that were not given back; the place at which the next term must start; the
-- bytes of the written terms
pub record Sequential (S : Type 0) : Type 0 where
  pub sink : S
  pub vectored : Bool
  pub queue : List QueuedTerm
  pub released : List Admission
  pub expected : ℕ
  pub delivered : ℕ
  pub kept : Option FileReconstructionError
  pub finished : Bool

-- what it tells as every writer does
abbrev pub told_of : {S : Type 0} → Sequential S → WriterTold
told_of w = record { next = Some w.expected; wanted = wanted w.queue; kept = w.kept; finished = w.finished }

-- the first terms of the queue were wholly written
pub record Passed {S : Type 0} (before after : Sequential S) (terms : ℕ) : Type 0 where
  pub within : terms ≤ length (ready before.queue)
  pub queue : after.queue ≡ drop terms before.queue
  pub released : after.released ≡ before.released ++ admissions (take terms before.queue)
  pub delivered : after.delivered ≡ before.delivered + length (concat (take terms (ready before.queue)))
  pub expected : after.expected ≡ before.expected
  pub finished : after.finished ≡ before.finished
  pub vectored : after.vectored ≡ before.vectored

-- the most pieces that one write is handed
abbrev pub most_pieces : {S : Type 0} → Sequential S → ℕ
most_pieces w = cond w.vectored 24 1

-- the oldest admission of a written term
abbrev pub TookReleased : {S : Type 0} → Sequential S → Sequential S → Option Admission → Type 0
TookReleased before after None = (before.released ≡ []) × (after ≡ before)
TookReleased before after (Some a) = (before.released ≡ a ∷ after.released)
    × (after ≡ record before { released = after.released })

-- the terms were passed that so many bytes fill
pub record PassedAll {S : Type 0} (before after : Sequential S) (count : ℕ) : Type 0 where
  pub terms : ℕ
  pub passed : Passed before after terms
  pub used : bytes_before terms (ready before.queue) ≤ count
  pub stuck : terms < length (ready before.queue)
      → count < bytes_before terms (ready before.queue) + length (get_or (ready before.queue) terms [])
  pub whole : count ≡ length (ready_bytes before.queue) → terms ≡ length (ready before.queue)
  pub sink : after.sink ≡ before.sink
  pub kept : after.kept ≡ before.kept
