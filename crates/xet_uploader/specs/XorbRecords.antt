-- Where a chunk stands in records of xorbs.
use Rattle.std.specs.Prelude.{ℕ, suc, List, [], ◌∷◌, Option, None, option_map, position}
use Rattle.std.specs.Option.{option_or}
use Rattle.xet_base.specs.declared.mdb_shard.MDBXorbInfo.{MDBXorbInfo}
use Rattle.xet_base.specs.declared.merklehash.MerkleHash.{MerkleHash}
use Rattle.xet_base.specs.Hashes.{hash_eq}
use Rattle.xet_uploader.specs.declared.xorb_records.ChunkPlace.{ChunkPlace}

-- the number of the first chunk with this hash
abbrev pub chunk_with : MerkleHash → MDBXorbInfo → Option ℕ
chunk_with h r = position (λ c. hash_eq c.hash h) r.chunks

-- the place of the chunk with number j in the record with number n
abbrev pub place_at : ℕ → ℕ → ChunkPlace
place_at n j = record { xorb = n; chunk = j }

-- the same chunk, where one record more stands before
abbrev pub one_later : ChunkPlace → ChunkPlace
one_later p = place_at (suc p.xorb) p.chunk

-- the first record that has a chunk with this hash, and the first such chunk of it
abbrev pub first_with : List MDBXorbInfo → MerkleHash → Option ChunkPlace
first_with [] h = None
first_with (r ∷ rs) h = option_or (option_map (place_at 0) (chunk_with h r)) (option_map one_later (first_with rs h))
