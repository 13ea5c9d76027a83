-- What an index of hashes keeps, and what more hashes change in it.
use Rattle.std.specs.Prelude.{ℕ, ◌≡◌, ◌||◌, ◌&&◌, ◌++◌, not, List, Bool, false, if◌then◌else◌}
use Rattle.std.specs.Prelude.{Option, Some, None, slice_get}
use Rattle.std.specs.List.{list_any}
use Rattle.std.specs.declared.cmp.Ordering.{Ordering}
use Rattle.std.specs.BTreeMap.{BTreeMap, get}
use Rattle.xet_base.specs.declared.merklehash.MerkleHash.{MerkleHash}
use Rattle.xet_base.specs.Hashes.{hash_eq}

-- how hashes are ordered, and at which number the index has each
abbrev pub HashOrder : Type 0
HashOrder = MerkleHash → MerkleHash → Ordering

abbrev pub Index : Type 0
Index = BTreeMap MerkleHash ℕ

abbrev pub is_hash : MerkleHash → Option MerkleHash → Bool
is_hash h None = false
is_hash h (Some g) = hash_eq g h

-- the list has the hash at this number: at one that a growth left behind that was refused it may have another
abbrev pub is_at : List MerkleHash → MerkleHash → Option ℕ → Bool
is_at hs h None = false
is_at hs h (Some n) = is_hash h (slice_get hs n)

-- an index has a number of each hash of the list, and of no other hash one at which the list has it
abbrev pub Finds : HashOrder → List MerkleHash → Index → Type 0
Finds cmp hs m = (h : MerkleHash) → is_at hs h (get cmp m h) ≡ list_any (λ y. hash_eq y h) hs

-- it is as it was
abbrev pub Same : HashOrder → (before after : Index) → Type 0
Same cmp before after = (h : MerkleHash) → get cmp after h ≡ get cmp before h

-- one hash was noted at a number behind the list, unless the list has it where it was noted
abbrev pub NotedOne : HashOrder → List MerkleHash → MerkleHash → ℕ → (before after : Index) → Type 0
NotedOne cmp hs g n before after =
    (h : MerkleHash) → get cmp after h
    ≡ (if hash_eq g h && not (is_at hs h (get cmp before h)) then Some n else get cmp before h)

-- numbers at which the list has their hash stay
abbrev pub Kept : HashOrder → List MerkleHash → (before after : Index) → Type 0
Kept cmp hs before after = (h : MerkleHash) → is_at hs h (get cmp after h) ≡ is_at hs h (get cmp before h)

-- more hashes were noted, which will stand behind the list
abbrev pub Noted : HashOrder → List MerkleHash → List MerkleHash → (before after : Index) → Type 0
Noted cmp hs more before after =
    (h : MerkleHash) → is_at (hs ++ more) h (get cmp after h)
    ≡ (is_at hs h (get cmp before h) || list_any (λ y. hash_eq y h) more)
