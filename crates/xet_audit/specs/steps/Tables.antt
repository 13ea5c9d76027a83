-- What look-ups of xorbs by their hashes keep.
use Rattle.std.specs.Prelude.{ℕ, ◌≡◌, ◌<◌, AllPairs, Bool, List, Option, Some, None, false, length}
use Rattle.std.specs.Prelude.{option_map, position, slice_index_or, slice_set, true}
use Rattle.std.specs.List.{list_any}
use Rattle.xet_base.specs.declared.merklehash.MerkleHash.{MerkleHash}
use Rattle.xet_base.specs.Hashes.{hash_eq}

-- the place of the first of some hashes that is this one
abbrev pub place_of : List MerkleHash → MerkleHash → Option ℕ
place_of hs h = position (λ y. hash_eq y h) hs

-- the keys are different hashes, each with the place at which it stands first among some hashes; no other stands there
pub record IsTable (hs keys : List MerkleHash) (places : List ℕ) : Type 0 where
  pub apart : AllPairs (λ a b. hash_eq a b ≡ false) keys
  pub count : length places ≡ length keys
  pub found : (h : MerkleHash) → option_map (λ n. slice_index_or places n 0) (place_of keys h) ≡ place_of hs h

-- the key of this number, where there is one, is marked too
abbrev pub marked : Option ℕ → List Bool → List Bool
marked None ms = ms
marked (Some n) ms = slice_set ms n true

-- each key's mark says whether it is one of some hashes
pub record IsMarked (keys seen : List MerkleHash) (marks : List Bool) : Type 0 where
  pub count : length marks ≡ length keys
  pub each : (n : ℕ) (d : MerkleHash) (e : Bool) → n < length keys
      → slice_index_or marks n e ≡ list_any (λ y. hash_eq y (slice_index_or keys n d)) seen
