-- The steps of the queue of a writer in order.
use Rattle.std.specs.Prelude.{ℕ, zero, suc, ◌≡◌, ◌+◌, ◌<◌, ◌≤◌, ◌++◌, length, get_or, List, [], ◌∷◌, Option, Some}
use Rattle.std.specs.Prelude.{None, option_to_list}
use Rattle.xet_error.specs.declared.error.WriterFault.{WriterFault}
use Rattle.xet_queue.specs.declared.queued_term.QueuedTerm.{QueuedTerm}
use Rattle.xet_queue.specs.Calls.{supply_fault, wanted_without}
use Rattle.xet_queue.specs.Pieces.{bytes_before}
use Rattle.xet_queue.specs.Queues.{ready, ready_bytes, supplied, wanted}
use Rattle.xet_queue.specs.Sequential.{Sequential, Passed}

-- a term of the queue has these bytes now
abbrev pub with_bytes : List QueuedTerm → ℕ → List ℕ → List QueuedTerm
with_bytes (t ∷ ts) zero bytes = record t { bytes = Some bytes } ∷ ts
with_bytes (t ∷ ts) (suc k) bytes = t ∷ with_bytes ts k bytes
with_bytes [] k bytes = []

-- the first wanted term with this start has its bytes, or a test failed
abbrev pub GiveCall : {S : Type 0} → Sequential S → Sequential S → ℕ → List ℕ → Option WriterFault → Type 0
GiveCall before after start bytes None = (supply_fault (wanted before.queue) start bytes ≡ None)
    × (after ≡ record before { queue = supplied start bytes before.queue })
    × (wanted after.queue ≡ wanted_without start (wanted before.queue))
GiveCall before after start bytes (Some f) = (supply_fault (wanted before.queue) start bytes ≡ Some f)
    × (after ≡ before)

-- the first term was written, of which so many bytes were left, and so many are left for the others
pub record PassedTerm {S : Type 0} (before after : Sequential S) (left rest : ℕ) : Type 0 where
  pub term : QueuedTerm
  pub bytes : List ℕ
  pub front : before.queue ≡ term ∷ after.queue
  pub has : term.bytes ≡ Some bytes
  pub rest_is : rest + length bytes ≡ left
  pub left_is : after ≡ record before {
    queue = after.queue;
    released = before.released ++ option_to_list term.admission;
    delivered = before.delivered + length bytes;
  }

-- the first term, if there is one that is ready, has more bytes than are left
abbrev pub IsStuck : List QueuedTerm → ℕ → Type 0
IsStuck ts left = (bytes : List ℕ) (rest : List (List ℕ)) → ready ts ≡ bytes ∷ rest → left < length bytes

abbrev pub PassedFront : {S : Type 0} → Sequential S → Sequential S → ℕ → Option ℕ → Type 0
PassedFront before after left None = (after ≡ before) × IsStuck before.queue left
PassedFront before after left (Some rest) = PassedTerm before after left rest
