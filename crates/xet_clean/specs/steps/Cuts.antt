-- Chunks that were found at the front of pending bytes, before they are taken off.
use Rattle.std.specs.Prelude.{ℕ, ◌≡◌, ◌<◌, ◌≤◌, ◌++◌, ◌∷◌, Bool, true, List, [], length, All, Some}
use Rattle.xet_base.specs.declared.mdb_shard.ChunkInfo.{ChunkInfo}
use Rattle.xet_base.specs.Digests.{info_of, infos_of}
use Rattle.xet_clean_parts.specs.Places.{CutAt, IsCutUp, IsNextCut, Telling}
use Rattle.xet_waiting.specs.Limits.{most_chunk_bytes}

-- these bytes, some but not too many, are the next chunk, where the cutter says so
pub record IsNextChunk (tell : Telling) (last : Bool) (pending chunk rest : List ℕ) : Type 0 where
  pub some : 0 < length chunk
  pub short : length chunk ≤ most_chunk_bytes
  pub place : IsNextCut tell last pending (Some (length chunk))
  pub pending_is : pending ≡ chunk ++ rest

-- the next chunk was found, and its hash and length came behind the others
pub record IsCut (tell : Telling) (last : Bool) (pending : List ℕ) (before : List ChunkInfo) (rest : List ℕ)
    (after : List ChunkInfo) : Type 0 where
  pub chunk : List ℕ
  pub next : IsNextChunk tell last pending chunk rest
  pub after_is : after ≡ before ++ info_of chunk ∷ []

-- no chunk is to be cut
pub record IsUncut (tell : Telling) (last : Bool) (pending : List ℕ) (before after : List ChunkInfo) : Type 0 where
  pub same : after ≡ before
  pub up : IsCutUp tell last pending
  pub none : last ≡ true → pending ≡ []

-- the chunks that the cutter cuts off the front have these hashes and lengths
pub record AreCuts (tell : Telling) (last : Bool) (pending : List ℕ) (infos : List ChunkInfo) : Type 0 where
  pub chunks : List (List ℕ)
  pub infos_are : infos ≡ infos_of chunks
  pub rest : List ℕ
  pub at : CutAt tell last pending chunks rest
  pub short : All (λ c. length c ≤ most_chunk_bytes) chunks
  pub up : IsCutUp tell last rest
  pub none : last ≡ true → rest ≡ []
