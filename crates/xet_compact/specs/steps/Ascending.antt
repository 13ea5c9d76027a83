-- Xorbs and files by ascending hash.
use Rattle.std.specs.Prelude.{ℕ, ◌≡◌, ◌<◌, ◌+◌, ◌↔◌, Contains, List, length, map, slice_index_or}
use Rattle.std.specs.List.Sorted.{IsPermutation, IsStrictlySortedBy}
use Rattle.xet_base.specs.declared.merklehash.MerkleHash.{MerkleHash}
use Rattle.xet_base.specs.declared.mdb_shard.Xorb.{Xorb}
use Rattle.xet_audit.specs.declared.raw_store.RawFile.{RawFile}
use Rattle.xet_audit.specs.Findings.{hash_cmp}
use Rattle.xet_compact.specs.declared.compaction.CompactError.{CompactError}
use Rattle.xet_compact.specs.declared.compaction.CompactError.TheVariants as compact_error

-- these files, by ascending hash
pub record AreFiles (files sorted : List RawFile) : Type 0 where
  pub ascend : IsStrictlySortedBy hash_cmp (map (λ f. f.hash) sorted)
  pub moved : IsPermutation files sorted

-- these xorbs, each once, by ascending hash
pub record AreXorbs (xorbs merged : List Xorb) : Type 0 where
  pub ascend : IsStrictlySortedBy hash_cmp (map (λ x. x.hash) merged)
  pub same : (x : Xorb) → Contains merged x ↔ Contains xorbs x

-- two of these xorbs have this hash and different chunks
pub record ClashesAt (xorbs : List Xorb) (h : MerkleHash) : Type 0 where
  pub one : Xorb
  pub other : Xorb
  pub one_in : Contains xorbs one
  pub other_in : Contains xorbs other
  pub same_hash : (one.hash ≡ h) × (other.hash ≡ h)
  pub differ : one.chunks ≡ other.chunks → ⊥

-- neighbours with one hash have equal chunks
abbrev pub NoneClashes : List Xorb → Type 0
NoneClashes xs = (k : ℕ) (d : Xorb) → k + 1 < length xs
    → (slice_index_or xs k d).hash ≡ (slice_index_or xs (k + 1) d).hash
    → (slice_index_or xs k d).chunks ≡ (slice_index_or xs (k + 1) d).chunks

-- want of memory, or a clash
abbrev pub ClashCause : List Xorb → CompactError → Type 0
ClashCause xs compact_error.OutOfMemory = Unit {0}
ClashCause xs compact_error.NotValid = ⊥
ClashCause xs (compact_error.Clash h) = ClashesAt xs h
