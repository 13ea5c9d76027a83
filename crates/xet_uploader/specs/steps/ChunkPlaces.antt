-- What an index of chunks keeps, and what one more record changes in it.
use Rattle.std.specs.Prelude.{ℕ, ◌≡◌, List, length, drop, Bool, false, if◌then◌else◌, Option, Some, None, option_map}
use Rattle.std.specs.Prelude.{option_and_then, slice_get}
use Rattle.std.specs.Option.{option_or}
use Rattle.std.specs.List.{position_from}
use Rattle.std.specs.declared.cmp.Ordering.{Ordering}
use Rattle.std.specs.BTreeMap.{BTreeMap, get}
use Rattle.xet_base.specs.declared.mdb_shard.ChunkInfo.{ChunkInfo}
use Rattle.xet_base.specs.declared.mdb_shard.MDBXorbInfo.{MDBXorbInfo}
use Rattle.xet_base.specs.declared.merklehash.MerkleHash.{MerkleHash}
use Rattle.xet_base.specs.Hashes.{hash_eq}
use Rattle.xet_uploader.specs.declared.xorb_records.ChunkPlace.{ChunkPlace}
use Rattle.xet_uploader.specs.XorbRecords.{first_with, place_at}

-- how hashes are ordered, and where the index has each
abbrev pub HashOrder : Type 0
HashOrder = MerkleHash → MerkleHash → Ordering

abbrev pub Index : Type 0
Index = BTreeMap MerkleHash ChunkPlace

-- the hash of the chunk at a place
abbrev pub hash_at : List MDBXorbInfo → ChunkPlace → Option MerkleHash
hash_at rs p = option_and_then (λ r. option_map (λ c. c.hash) (slice_get r.chunks p.chunk)) (slice_get rs p.xorb)

abbrev pub is_hash : MerkleHash → Option MerkleHash → Bool
is_hash h None = false
is_hash h (Some g) = hash_eq g h

-- the place, where the chunk there has the hash: a place that an add left behind that was not finished may not
abbrev pub checked : List MDBXorbInfo → MerkleHash → Option ChunkPlace → Option ChunkPlace
checked rs h None = None
checked rs h (Some p) = if is_hash h (hash_at rs p) then Some p else None

-- an index has the first place of each hash, and of a hash without one no place that has it
abbrev pub Places : HashOrder → List MDBXorbInfo → Index → Type 0
Places cmp rs m = (h : MerkleHash) → checked rs h (get cmp m h) ≡ first_with rs h

-- a place stays where it has the hash, and else becomes that of a chunk of the next record, where one is given
abbrev pub noted : List MDBXorbInfo → MerkleHash → Option ChunkPlace → Option ℕ → Option ChunkPlace
noted rs h o None = o
noted rs h o (Some j) = option_or (checked rs h o) (Some (place_at (length rs) j))

-- one chunk of the next record was noted
abbrev pub Noted : HashOrder → List MDBXorbInfo → MerkleHash → ℕ → (before after : Index) → Type 0
Noted cmp rs g j before after =
    (h : MerkleHash) → get cmp after h
    ≡ (if hash_eq g h then noted rs h (get cmp before h) (Some j) else get cmp before h)

-- the chunks of the next record from a number on were noted
abbrev pub NotedFrom : HashOrder → List MDBXorbInfo → List ChunkInfo → ℕ → (before after : Index) → Type 0
NotedFrom cmp rs cs k before after =
    (h : MerkleHash) → get cmp after h
    ≡ noted rs h (get cmp before h) (position_from (λ c. hash_eq c.hash h) k (drop k cs))

-- places that have their hash stay
abbrev pub Kept : HashOrder → List MDBXorbInfo → (before after : Index) → Type 0
Kept cmp rs before after = (h : MerkleHash) → checked rs h (get cmp after h) ≡ checked rs h (get cmp before h)
