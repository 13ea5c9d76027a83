-- Chains of terms over ranges, and the size that they sum to.
use Rattle.std.specs.Prelude.{ℕ, zero, suc, ◌+◌, ◌≡◌, Bool, true, false, ◌&&◌, ◌||◌, IsTrue, All, Contains, List, []}
use Rattle.std.specs.Prelude.{◌^◌, ◌∷◌, cond, map, nat_eq, nat_lt, option_map, sum, Option, Some, None}
use Rattle.xet_base.specs.declared.cas_types.ChunkRange.{ChunkRange}
use Rattle.xet_base.specs.Lists.{first_some}
use Rattle.xet_offers.specs.declared.reconstruction_terms.xorb_block.XorbReference.{XorbReference}

-- a range's end is a, and the next range's greater start is b
abbrev pub bridges : List ChunkRange → ℕ → ℕ → Bool
bridges [] a b = false
bridges (r ∷ []) a b = false
bridges (r ∷ s ∷ rs) a b = (nat_eq r.end a && (nat_eq s.start b && nat_lt a b)) || bridges (s ∷ rs) a b

-- a term that ends at a leads to p
abbrev pub leads : List ChunkRange → ℕ → ℕ → Bool
leads rs a p = nat_eq a p || bridges rs a p

-- of a term that leads to p its size and the sum at its start
abbrev pub sum_by_term : List ChunkRange → (ℕ → Option ℕ) → ℕ → XorbReference → Option ℕ
sum_by_term rs before p t =
    elim (leads rs t.term_chunks.end p) [
      | true ↦ option_map (λ n. t.uncompressed_size + n) (before t.term_chunks.start)
      | false ↦ None
    ]

-- the sum at a position, looking back over at most this many terms
abbrev pub sum_at : List ChunkRange → List XorbReference → ℕ → ℕ → ℕ → Option ℕ
sum_at rs ts first zero p = None
sum_at rs ts first (suc n) p =
    elim (nat_eq first p) [
      | true ↦ Some 0
      | false ↦ first_some (map (sum_by_term rs (sum_at rs ts first n) p) ts)
    ]

-- where the first range starts, and the last one ends; 0 where there is none
abbrev pub first_start : List ChunkRange → ℕ
first_start [] = 0
first_start (r ∷ rs) = r.start

abbrev pub last_end : List ChunkRange → ℕ
last_end [] = 0
last_end (r ∷ []) = r.end
last_end (r ∷ s ∷ rs) = last_end (s ∷ rs)

-- the size of a block by the chain of terms that reaches its end
abbrev pub chain_sum : List ChunkRange → List XorbReference → Option ℕ
chain_sum [] ts = Some 0
chain_sum (r ∷ rs) ts = sum_at (r ∷ rs) ts r.start (suc (last_end (r ∷ rs))) (last_end (r ∷ rs))

-- the size of a block where its terms tell it: a chain of them reaches its end, and the sum of all sizes is a `usize`
abbrev pub known_size : List ChunkRange → List XorbReference → Option ℕ
known_size [] ts = Some 0
known_size (r ∷ rs) ts =
    cond (nat_lt (sum (map (λ t. t.uncompressed_size) ts)) (2 ^ 64)) (chain_sum (r ∷ rs) ts) None

-- terms that lead from one place to another, each from where the one before it leads
abbrev pub Links : List ChunkRange → ℕ → List XorbReference → ℕ → Type 0
Links rs p [] e = p ≡ e
Links rs p (t ∷ ts) e = (t.term_chunks.start ≡ p) × (q : ℕ) × IsTrue (leads rs t.term_chunks.end q) × Links rs q ts e

-- some of the terms lead from the first range's start to the last range's end
pub record HasChain (rs : List ChunkRange) (ts : List XorbReference) : Type 0 where
  pub chain : List XorbReference
  pub among : All (λ t. Contains ts t) chain
  pub links : Links rs (first_start rs) chain (last_end rs)
