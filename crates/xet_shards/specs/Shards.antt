-- What a store of records tells, and what one call of it may change.
use Rattle.std.specs.Prelude.{ℕ, ◌≡◌, ◌↔◌, ◌≤◌, ◌+◌, ◌-◌, ◌^◌, min, List, [], ◌++◌, Contains, Option, IfSome}
use Rattle.std.specs.Prelude.{option_map, Result, Ok, Err, IfOk, OnOk, OnErr, IsErrOf}
use Rattle.xet_base.specs.declared.merklehash.MerkleHash.{MerkleHash}
use Rattle.xet_base.specs.declared.mdb_shard.FileDataSequenceEntry.{FileDataSequenceEntry}
use Rattle.xet_base.specs.declared.mdb_shard.MDBFileInfo.{MDBFileInfo}
use Rattle.xet_base.specs.declared.mdb_shard.ShardRecord.{ShardRecord}
use Rattle.xet_outside.specs.Told.{Rose}
use Rattle.xet_shards.specs.declared.shard_store.ShardError.{ShardError}
use Rattle.xet_shards.specs.declared.shard_store.ShardError.TheVariants as shard_error
use Rattle.xet_shards.specs.Runs.{IsRun, find_in}
use Rattle.xet_uploader.specs.declared.fault_script.FaultScript.{FaultScript}

pub record ShardsTold : Type 0 where
  pub records : Option ShardRecord
  pub faults : ℕ

abbrev pub no_records : ShardRecord
no_records = record { xorbs = []; files = [] }

-- the records of both
abbrev pub with_records : ShardRecord → ShardRecord → ShardRecord
with_records a b = record { xorbs = a.xorbs ++ b.xorbs; files = a.files ++ b.files }

pub record AddCall (before after : ShardsTold) (shard : ShardRecord)
    (answer : Result (Unit {0}) ShardError) : Type 0 where
  pub added : OnOk answer (after.records ≡ option_map (λ r. with_records r shard) before.records)
  pub kept : OnErr answer (after.records ≡ before.records)
  pub faults : before.faults ≤ after.faults
  pub failed : IsErrOf answer shard_error.Failed → Rose before.faults after.faults

-- a call that leaves the records
pub record Reads {A : Type 0} (before after : ShardsTold) (answer : Result A ShardError) : Type 0 where
  pub records : after.records ≡ before.records
  pub faults : before.faults ≤ after.faults
  pub failed : IsErrOf answer shard_error.Failed → Rose before.faults after.faults

pub record FindCall (before after : ShardsTold) (hashes : List MerkleHash)
    (answer : Result (Option (ℕ × FileDataSequenceEntry)) ShardError) : Type 0 where
  pub reads : Reads before after answer
  pub run : IfOk answer (λ o. IfSome o (λ f. IsRun hashes f.0 f.1))
  pub found : IfSome before.records (λ r. IfOk answer (λ o. o ≡ find_in r.xorbs hashes))

pub record FilesCall (before after : ShardsTold) (answer : Result (List MDBFileInfo) ShardError) : Type 0 where
  pub reads : Reads before after answer
  pub files : IfSome before.records (λ r. IfOk answer (λ fs. fs ≡ r.files))

pub record AllCall (before after : ShardsTold) (answer : Result ShardRecord ShardError) : Type 0 where
  pub reads : Reads before after answer
  pub whole : IfSome before.records (λ r. IfOk answer (λ s. s ≡ r))

pub record ClearCall (before after : ShardsTold) (answer : Result (Unit {0}) ShardError) : Type 0 where
  pub cleared : OnOk answer (after.records ≡ option_map (λ r. no_records) before.records)
  pub kept : OnErr answer (after.records ≡ before.records)
  pub faults : before.faults ≤ after.faults
  pub failed : IsErrOf answer shard_error.Failed → Rose before.faults after.faults
  pub memory : IsErrOf answer shard_error.OutOfMemory → ⊥

-- a count of faults after a call: one that failed makes it one more, or leaves it at its last value, and every other
-- answer leaves it
abbrev pub CountsFailed : {A : Type 0} → ℕ → ℕ → Result A ShardError → Type 0
CountsFailed before after (Err shard_error.Failed) = after ≡ min (before + 1) (2 ^ 64 - 1)
CountsFailed before after (Err shard_error.OutOfMemory) = after ≡ before
CountsFailed before after (Ok a) = after ≡ before

-- one call of a store that fails by a script
pub record FollowsScript {A : Type 0} (before after : FaultScript) (answer : Result A ShardError) : Type 0 where
  pub failed : IsErrOf answer shard_error.Failed ↔ Contains before.fails.items before.calls
  pub faults : CountsFailed before.faults after.faults answer
  pub calls : after.calls ≡ min (before.calls + 1) (2 ^ 64 - 1)
  pub fails : after.fails ≡ before.fails
