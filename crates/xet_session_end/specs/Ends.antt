-- The end of a session behind the cut of what waits.
use Rattle.std.specs.Prelude.{ℕ, ◌≡◌, ◌+◌, ◌-◌, ◌^◌, ◌⊎◌, min, List, [], Option, Result, Ok, Err, OnOk, IfErr}
use Rattle.xet_base.specs.declared.mdb_shard.MDBFileInfo.{MDBFileInfo}
use Rattle.xet_base.specs.declared.mdb_shard.ShardRecord.{ShardRecord}
use Rattle.xet_outside.specs.declared.client.ClientError.{ClientError}
use Rattle.xet_uploader.specs.Uploads.{UploaderTold}
use Rattle.xet_shard_interface.specs.Interfaces.{AddsRecords, InterfaceTold}
use Rattle.xet_shard_interface.specs.Puts.{Uploads}
use Rattle.xet_upload.specs.declared.data_error.DataError.{DataError}
use Rattle.xet_upload.specs.declared.metrics.DeduplicationMetrics.{DeduplicationMetrics}

-- what the end of a session reads and changes: what its uploader and stores tell, its counts, and the first put that
-- failed
pub record EndTold : Type 0 where
  pub uploader : UploaderTold
  pub shards : InterfaceTold
  pub metrics : DeduplicationMetrics
  pub failed : Option ClientError

-- the counts at the end: the bytes of the xorbs, those of the shards, and both
abbrev pub end_counts : DeduplicationMetrics → ℕ → DeduplicationMetrics
end_counts m bytes = record m {
  shard_bytes_uploaded = bytes;
  total_bytes_uploaded = min (m.xorb_bytes_uploaded + bytes) (2 ^ 64 - 1);
}

-- records of files, alone
abbrev pub files_alone : List MDBFileInfo → ShardRecord
files_alone fs = record { xorbs = []; files = fs }

-- the files' records were refused, and nothing more was done
abbrev pub EndsUnadded : EndTold → EndTold → List MDBFileInfo → Result DeduplicationMetrics DataError → Type 0
EndsUnadded b n fs answer = (e : DataError) × (answer ≡ Err e) × (n ≡ record b { shards = n.shards })
    × AddsRecords b.shards n.shards (files_alone fs) (Err e)

-- the counts are taken behind the puts of shards that have so many bytes, and answered; an error leaves them
abbrev pub CountsBehind : Result ℕ DataError → EndTold → EndTold → Result DeduplicationMetrics DataError → Type 0
CountsBehind (Ok bytes) b n answer = (n.metrics ≡ end_counts b.metrics bytes) × (answer ≡ Ok n.metrics)
CountsBehind (Err e) b n answer = (n.metrics ≡ b.metrics) × (answer ≡ Err e)

-- the files' records were added, then all were put as shards, and the counts were taken last
pub record EndsAdded (b n : EndTold) (fs : List MDBFileInfo)
    (answer : Result DeduplicationMetrics DataError) : Type 0 where
  pub added : InterfaceTold
  pub adds : AddsRecords b.shards added (files_alone fs) (Ok tt)
  pub put : Result ℕ DataError
  pub uploads : Uploads b.uploader n.uploader added n.shards b.failed n.failed put
  pub counts : CountsBehind put b n answer

-- the end behind a cut that answered so: nothing is done after one that failed
pub record EndsBehind (b n : EndTold) (fs : List MDBFileInfo) (cut : Result (Unit {0}) DataError)
    (answer : Result DeduplicationMetrics DataError) : Type 0 where
  pub uncut : IfErr cut (λ e. (n ≡ b) × (answer ≡ Err e))
  pub so : OnOk cut (EndsUnadded b n fs answer ⊎ EndsAdded b n fs answer)
