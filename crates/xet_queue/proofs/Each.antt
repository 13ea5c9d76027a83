-- The ready terms of a queue, one by one.
use Rattle.std.proofs.Common.{◌≡◌, ℕ, ◌+◌, ◌<◌, ◌≤◌, drop, List, [], ◌∷◌, length, get_or, Some, None, ap, sym, ◌∙◌}
use Rattle.std.proofs.lemmas.List.{drop_more, get_or_default}
use Rattle.xet_queue.specs.declared.queued_term.QueuedTerm.{QueuedTerm}
use Rattle.xet_queue.specs.Queues.{bytes_then, ready}
use Rattle.xet_queue.proofs.Terms.{drop_next, drop_none, drop_some, ready_front}

front_is : (ts : List QueuedTerm) (i : ℕ) (t : QueuedTerm) → i < length ts → t ≡ get_or ts i t → drop i ts ≡ t ∷ drop (i + 1) ts
front_is ts i t h e = drop_more ts i t h ∙ ap (λ u. u ∷ drop (i + 1) ts) (sym e)

-- a wanted term ends them
pub none_next : (ts : List QueuedTerm) (i : ℕ) (t : QueuedTerm) → i < length ts → t ≡ get_or ts i t → t.bytes ≡ None → ready (drop i ts) ≡ drop i (ready ts) → length (ready ts) ≤ i
none_next ts i t h e f r =
    let a : ready (drop i ts) ≡ [] = ap ready (front_is ts i t h e) ∙ ap (λ o. bytes_then o (ready (drop (i + 1) ts))) f in
    drop_none (ready ts) i (sym r ∙ a)

-- the next ready term
pub record Next (ts : List QueuedTerm) (i : ℕ) (p : List ℕ) : Type 0 where
  pub below : i < length (ready ts)
  pub there : p ≡ get_or (ready ts) i p
  pub there_none : p ≡ get_or (ready ts) i []
  pub rest : ready (drop (i + 1) ts) ≡ drop (i + 1) (ready ts)

pub next_of : (ts : List QueuedTerm) (i : ℕ) (t : QueuedTerm) (p : List ℕ) → i < length ts → t ≡ get_or ts i t → t.bytes ≡ Some p → ready (drop i ts) ≡ drop i (ready ts) → Next ts i p
next_of ts i t p h e f r =
    let a = ready_front (drop i ts) (drop (i + 1) ts) t p (front_is ts i t h e) f in
    let d : drop i (ready ts) ≡ p ∷ ready (drop (i + 1) ts) = sym r ∙ a in
    let b = drop_some (ready ts) i p (ready (drop (i + 1) ts)) d in
    let g : p ∷ ready (drop (i + 1) ts) ≡ get_or (ready ts) i p ∷ drop (i + 1) (ready ts) = sym d ∙ drop_more (ready ts) i p b in
    let z : p ≡ get_or (ready ts) i p = cc in
    record { below = b; there = z; there_none = z ∙ get_or_default (ready ts) i p [] b; rest = sym (drop_next (ready ts) i p (ready (drop (i + 1) ts)) d) }
