-- A queue whose terms are all ready.
use Rattle.std.proofs.Common.{◌≡◌, ℕ, suc, ◌+◌, ◌-◌, false, List, [], ◌∷◌, ◌++◌, length, Option, Some, None, ap, refl, arith}
use Rattle.xet_queue.specs.declared.queued_term.QueuedTerm.{QueuedTerm}
use Rattle.xet_queue.specs.Calls.{closed_by}
use Rattle.xet_queue.specs.Queues.{bytes_then, ready}
use Rattle.xet_writers.specs.Sequential.{Sequential, told_of}

abbrev More : List QueuedTerm → QueuedTerm → List ℕ → Type 0
More ts t bytes = (ready (ts ++ t ∷ []) ≡ ready ts ++ bytes ∷ []) × (length (ready (ts ++ t ∷ [])) ≡ length (ts ++ t ∷ []))

more_at : (ts : List QueuedTerm) (t : QueuedTerm) (bytes : List ℕ) (o : Option (List ℕ)) → length (bytes_then o (ready ts)) ≡ suc (length ts) → (length (ready ts) ≡ length ts → More ts t bytes) → (bytes_then o (ready (ts ++ t ∷ [])) ≡ bytes_then o (ready ts) ++ bytes ∷ []) × (length (bytes_then o (ready (ts ++ t ∷ []))) ≡ suc (length (ts ++ t ∷ [])))
more_at ts t bytes None h r = absurd (omega arith)
more_at ts t bytes (Some bs) h r = let q = r (omega arith) in (ap (λ l. bs ∷ l) q.0, ap suc q.1)

pub ready_more : (ts : List QueuedTerm) (t : QueuedTerm) (bytes : List ℕ) → length (ready ts) ≡ length ts → t.bytes ≡ Some bytes → More ts t bytes
ready_more [] t bytes h e = (ap (λ o. bytes_then o []) e, ap (λ o. length (bytes_then o [])) e)
ready_more (u ∷ ts) t bytes h e = more_at ts t bytes u.bytes h (λ v. ready_more ts t bytes v e)

-- a writer that keeps no error and was not finished refuses no call for that
pub open_writer : {S : Type 0} (w : Sequential S) → w.kept ≡ None → w.finished ≡ false → closed_by (told_of w) ≡ None
open_writer w k f = rw (k, f) refl
