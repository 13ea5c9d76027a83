-- Xorbs whose chunks stand joined behind each other in one buffer.
use Rattle.std.specs.Prelude.{ℕ, ◌≡◌, ◌-◌, ◌≤◌, ◌++◌, List, length, slice_range}
use Rattle.xet_base.specs.declared.mdb_shard.Xorb.{Xorb}
use Rattle.xet_store.specs.Parts.{AreEnds, parts}
use Rattle.xet_document.specs.declared.joined_chunks.JoinedChunks.{JoinedChunks}
use Rattle.xet_document.specs.declared.joined_chunks.XorbPlace.{XorbPlace}

-- the place lies within the bytes and the ends, and the ends there are those of chunks that fill its bytes
pub record IsPlaced (bytes ends : List ℕ) (p : XorbPlace) : Type 0 where
  pub within : p.end ≤ length bytes
  pub ascends : p.start ≤ p.end
  pub ends_within : p.last ≤ length ends
  pub ends_ascend : p.first ≤ p.last
  pub fill : AreEnds 0 (slice_range ends p.first p.last) (p.end - p.start)

-- the xorb at a place
abbrev pub placed_xorb : List ℕ → List ℕ → XorbPlace → Xorb
placed_xorb bytes ends p =
    record { hash = p.hash; chunks = parts (slice_range bytes p.start p.end) 0 (slice_range ends p.first p.last) }

-- these chunks were added behind the others
pub record AddsChunks (before after : JoinedChunks) (chunks : List (List ℕ)) : Type 0 where
  pub own : List ℕ
  pub places : List ℕ
  pub bytes : after.bytes.items ≡ before.bytes.items ++ own
  pub ends : after.ends.items ≡ before.ends.items ++ places
  pub fill : AreEnds 0 places (length own)
  pub chunks_are : chunks ≡ parts own 0 places
