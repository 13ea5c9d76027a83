-- The bytes of some terms of a queue, lent for a write.
use Rattle.std.specs.Prelude.{ℕ, zero, suc, ◌≡◌, ◌+◌, ◌≤◌, List, [], ◌∷◌, drop, length, take, Option, Some, None}
use Rattle.xet_queue.specs.declared.queued_term.QueuedTerm.{QueuedTerm}
use Rattle.xet_queue.specs.Pieces.{nonempty}
use Rattle.xet_queue.specs.Queues.{ready}

-- what a term keeps of its bytes while they are lent: empty ones are not lent
abbrev pub kept_bytes : Option (List ℕ) → Option (List ℕ)
kept_bytes None = None
kept_bytes (Some []) = Some []
kept_bytes (Some (b ∷ bs)) = None

-- the term of this number has its bytes lent
abbrev pub lent_at : List QueuedTerm → ℕ → List QueuedTerm
lent_at (t ∷ ts) zero = record t { bytes = kept_bytes t.bytes } ∷ ts
lent_at (t ∷ ts) (suc k) = t ∷ lent_at ts k
lent_at [] k = []

-- so many terms from one on have their bytes lent
abbrev pub lent : ℕ → List QueuedTerm → ℕ → List QueuedTerm
lent at ts zero = ts
lent at ts (suc n) = lent_at (lent at ts n) (at + n)

-- what is lent then
abbrev pub lent_pieces : ℕ → List QueuedTerm → ℕ → List (List ℕ)
lent_pieces at ts n = nonempty (take n (drop at (ready ts)))

-- the terms from one number to another have lent their bytes
pub record Lends (at end : ℕ) (ts qs : List QueuedTerm) (pieces : List (List ℕ)) : Type 0 where
  pub count : ℕ
  pub end_is : end ≡ at + count
  pub within : end ≤ length (ready ts)
  pub queue : qs ≡ lent at ts count
  pub pieces_are : pieces ≡ lent_pieces at ts count
