-- Chunk records that hashes are computed from.
use Rattle.std.specs.Prelude.{ℕ, ◌≡◌, ◌^◌, ◌++◌, List, Option, Some, None, cond, length, nat_lt, true}
use Rattle.sha2.specs.Hashers.{Holds256}
use Rattle.sha2.specs.declared.Sha256.{Sha256}
use Rattle.xet_base.specs.declared.mdb_shard.ChunkInfo.{ChunkInfo}
use Rattle.xet_base.specs.Digests.{chunks_text, info_of, infos_of}
use Rattle.xet_audit.specs.Findings.{are_short}

-- a chunk's hash and length, where the length fits 4 bytes
abbrev pub record_of : List ℕ → Option ChunkInfo
record_of c = cond (nat_lt (length c) (2 ^ 32)) (Some (info_of c)) None

-- the hashes and lengths of these chunks, which fit all, were fed to a hash
pub record Fed (before after : Sha256) (cs : List (List ℕ)) : Type 0 where
  pub short : are_short cs ≡ true
  pub holds : (m : List ℕ) → Holds256 before m → Holds256 after (m ++ chunks_text (infos_of cs))
