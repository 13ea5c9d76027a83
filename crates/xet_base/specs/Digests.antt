-- The hashes of chunks, xorbs and files.
use Rattle.std.specs.Prelude.{ℕ, List, ◌∷◌, ◌++◌, length, map}
use Rattle.std.specs.List.{flat_map}
use Rattle.std.specs.Int.{w32, to_be_bytes}
use Rattle.sha2.specs.Sha256.{sha256}
use Rattle.xet_base.specs.declared.merklehash.MerkleHash.{MerkleHash}
use Rattle.xet_base.specs.declared.mdb_shard.ChunkInfo.{ChunkInfo}

-- each chunk's hash and its length as 4 bytes, the highest first
abbrev pub chunks_text : List ChunkInfo → List ℕ
chunks_text cs = flat_map (λ c. c.hash.0 ++ to_be_bytes w32 c.length) cs

-- the hash of a chunk: SHA-256 of the byte 0 and its bytes
unfoldable pub chunk_hash_of : List ℕ → MerkleHash
chunk_hash_of bytes = record { 0 = sha256 (0 ∷ bytes) }

-- the hash of a xorb: SHA-256 of the byte 1 and its chunks' hashes and lengths
unfoldable pub xorb_hash_of : List ChunkInfo → MerkleHash
xorb_hash_of cs = record { 0 = sha256 (1 ∷ chunks_text cs) }

-- the hash of a file: SHA-256 of the byte 2 and its chunks' hashes and lengths
unfoldable pub file_hash_of : List ChunkInfo → MerkleHash
file_hash_of cs = record { 0 = sha256 (2 ∷ chunks_text cs) }

-- a chunk's hash and length
abbrev pub info_of : List ℕ → ChunkInfo
info_of c = record { hash = chunk_hash_of c; length = length c }

-- the hash and length of each of some chunks
abbrev pub infos_of : List (List ℕ) → List ChunkInfo
infos_of cs = map info_of cs
