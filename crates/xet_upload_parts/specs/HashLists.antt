-- Which hashes a list has, as a test.
use Rattle.std.specs.Prelude.{◌≡◌, Bool, List}
use Rattle.std.specs.List.{list_any}
use Rattle.xet_base.specs.Hashes.{hash_eq}
use Rattle.xet_base.specs.declared.merklehash.MerkleHash.{MerkleHash}

-- one of them is this hash
abbrev pub has : MerkleHash → List MerkleHash → Bool
has h xs = list_any (λ y. hash_eq y h) xs

-- the map tells of the same hashes as a list
abbrev pub AreFound : List MerkleHash → List MerkleHash → Type 0
AreFound known hashes = (h : MerkleHash) → has h known ≡ has h hashes
