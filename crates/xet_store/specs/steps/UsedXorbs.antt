-- The different xorbs of a plan's terms, and which of their chunks the terms have.
use Rattle.std.specs.Prelude.{ℕ, ◌≡◌, ◌<◌, Bool, false, ◌&&◌, List, map}
use Rattle.std.specs.Prelude.{nat_lt, nat_le, length, slice_index_or, AllPairs}
use Rattle.std.specs.List.{list_any}
use Rattle.xet_base.specs.declared.merklehash.MerkleHash.{MerkleHash}
use Rattle.xet_base.specs.Hashes.{hash_eq}
use Rattle.xet_base.specs.Lists.{firsts}
use Rattle.xet_base.specs.Store.{Store, chunks_of}
use Rattle.xet_outside.specs.declared.plan.PlanTerm.{PlanTerm}

-- some term has the chunk of this number of the xorb
abbrev pub has_number : List PlanTerm → MerkleHash → ℕ → Bool
has_number ts x k = list_any (λ t. hash_eq t.xorb x && nat_le t.range.start k && nat_lt k t.range.end) ts

-- the marks of a xorb's chunks are those that some term has
pub record IsTouched (s : Store) (ts : List PlanTerm) (x : MerkleHash) (marks : List Bool) : Type 0 where
  pub count : length marks ≡ length (chunks_of s x)
  pub marked : (k : ℕ) → k < length marks → slice_index_or marks k false ≡ has_number ts x k

-- the different xorbs of some terms in the order of their first use, each with its marks
pub record IsUsed (s : Store) (ts : List PlanTerm) (hashes : List MerkleHash) (marks : List (List Bool)) : Type 0 where
  pub hashes_are : hashes ≡ firsts hash_eq (map (λ t. t.xorb) ts)
  pub apart : AllPairs (λ a b. hash_eq a b ≡ false) hashes
  pub count : length marks ≡ length hashes
  pub touched : (i : ℕ) (x : MerkleHash) (ms : List Bool) → i < length hashes
      → IsTouched s ts (slice_index_or hashes i x) (slice_index_or marks i ms)
