-- How far terms reach in xorbs.
use Rattle.std.specs.Prelude.{ℕ, ◌≡◌, ◌<◌, ◌||◌, List, [], Some, length, position, slice_index_or}
use Rattle.std.specs.List.{list_any}
use Rattle.xet_base.specs.declared.merklehash.MerkleHash.{MerkleHash}
use Rattle.xet_base.specs.declared.stored.StoredTerm.{StoredTerm}
use Rattle.xet_base.specs.Hashes.{hash_eq}
use Rattle.xet_held.specs.Held.{covers, is_reached}

-- the term's xorb has a number, and the chunk that the term begins with
pub record IsWithin (hashes : List MerkleHash) (reaches : List (List ℕ)) (t : StoredTerm) : Type 0 where
  pub place : ℕ
  pub found : position (λ h. hash_eq h t.xorb) hashes ≡ Some place
  pub inside : place < length reaches
  pub some : t.from < length (slice_index_or reaches place [])

-- with these terms more each xorb's terms reach the chunks that they reached, and those that one of these holds
pub record Extends (hashes : List MerkleHash) (old new : List (List ℕ)) (ts : List StoredTerm) : Type 0 where
  pub count : length new ≡ length old
  pub long : (i : ℕ) → length (slice_index_or new i []) ≡ length (slice_index_or old i [])
  pub held : (i k : ℕ) (d : MerkleHash) → i < length hashes → i < length old → k < length (slice_index_or old i [])
      → is_reached (slice_index_or new i []) k
      ≡ (is_reached (slice_index_or old i []) k || list_any (covers (slice_index_or hashes i d) k) ts)
