-- How many bytes records count for, and what a record describes.
use Rattle.std.specs.Prelude.{ℕ, ◌≡◌, ◌+◌, ◌*◌, length, sum_by, Option, Some, None}
use Rattle.std.specs.List.{concat}
use Rattle.xet_base.specs.declared.mdb_shard.Xorb.{Xorb}
use Rattle.xet_base.specs.declared.mdb_shard.MDBXorbInfo.{MDBXorbInfo}
use Rattle.xet_base.specs.declared.mdb_shard.MDBFileInfo.{MDBFileInfo}
use Rattle.xet_base.specs.declared.mdb_shard.ShardRecord.{ShardRecord}
use Rattle.xet_base.specs.Digests.{infos_of}

-- a xorb record counts for 36 bytes, and 36 for each chunk
abbrev pub xorb_size : MDBXorbInfo → ℕ
xorb_size x = length x.chunks * 36 + 36

-- what a file record counts for without its terms: 32 bytes, and 32 more where it has SHA-256
abbrev pub digest_size : {A : Type 0} → Option A → ℕ
digest_size None = 32
digest_size (Some d) = 64

-- a file record counts for that, and 44 bytes for each term
abbrev pub file_size : MDBFileInfo → ℕ
file_size f = length f.entries * 44 + digest_size f.sha256

-- records count for the sum of what each counts for
abbrev pub shard_size : ShardRecord → ℕ
shard_size s = sum_by xorb_size s.xorbs + sum_by file_size s.files

-- the record has the xorb's hash, and the hash and length of each of its chunks
pub record Describes (r : MDBXorbInfo) (x : Xorb) : Type 0 where
  pub hash : r.hash ≡ x.hash
  pub num_bytes : r.num_bytes ≡ length (concat x.chunks)
  pub chunks : r.chunks ≡ infos_of x.chunks
