-- Records that are put as shards, and the cache, which learns what was put or answered.
use Rattle.std.specs.Prelude.{ℕ, ◌≡◌, ◌+◌, ◌-◌, ◌^◌, ◌<◌, ◌≤◌, ◌⊎◌, min, Bool, true, false, List, [], ◌∷◌, ◌++◌, length}
use Rattle.std.specs.Prelude.{map, take, All, Option, Some, None, IsSome, option_map, unwrap_or, Result, IfOk, OnOk}
use Rattle.std.specs.Prelude.{OnErr, IfErr}
use Rattle.std.specs.List.{sum_by}
use Rattle.xet_base.specs.declared.merklehash.MerkleHash.{MerkleHash}
use Rattle.xet_base.specs.declared.mdb_shard.ShardRecord.{ShardRecord}
use Rattle.xet_base.specs.Records.{shard_size}
use Rattle.xet_outside.specs.declared.client.ClientError.{ClientError}
use Rattle.xet_outside.specs.declared.client.ClientError.TheVariants as client_error
use Rattle.xet_outside.specs.Told.{Rose, Grew}
use Rattle.xet_uploader.specs.declared.uploader.Put.{Put}
use Rattle.xet_uploader.specs.declared.uploader.Put.TheVariants as put
use Rattle.xet_uploader.specs.Uploads.{AskedOnce, UploaderTold}
use Rattle.xet_shards.specs.Shards.{ShardsTold, no_records, with_records}
use Rattle.xet_upload.specs.Orders.{IsOrdered, IsThere, names_of}
use Rattle.xet_upload.specs.DataErrors.{of_client_error}
use Rattle.xet_upload.specs.declared.data_error.DataError.{DataError}
use Rattle.xet_shard_interface.specs.Fillings.{shards_in}
use Rattle.xet_shard_interface.specs.Interfaces.{InterfaceTold, LaterFaults, StoreFails, known_told, records_of}
use Rattle.xet_shard_interface.specs.Interfaces.{resumed_faults, resumed_records}

abbrev pub puts_of : UploaderTold → List Put
puts_of u = unwrap_or u.puts []

-- the log with some shards behind it
abbrev pub with_puts : Option (List Put) → List ShardRecord → Option (List Put)
with_puts log ss = option_map (λ ps. ps ++ map put.Shard ss) log

-- records with those of some shards behind them
abbrev pub with_shards : ShardRecord → List ShardRecord → ShardRecord
with_shards r [] = r
with_shards r (s ∷ ss) = with_shards (with_records r s) ss

abbrev pub all_with_shards : Option ShardRecord → List ShardRecord → Option ShardRecord
all_with_shards o ss = option_map (λ r. with_shards r ss) o

-- a query for this chunk was answered so
pub record Answered (u v : UploaderTold) (chunk : MerkleHash) (answer : Option ShardRecord) : Type 0 where
  pub asked : Grew u.asked v.asked chunk
  pub answered : Grew u.answered v.answered answer

-- what a query for a chunk found, which the cache has now
abbrev pub Learned : UploaderTold → UploaderTold → InterfaceTold → InterfaceTold → MerkleHash → Type 0
Learned u v b n chunk = (s : ShardRecord) × Answered u v chunk (Some s)
    × (n.cache.records ≡ option_map (λ r. with_records r s) b.cache.records)

-- no query was answered, and the chunk was asked for at most once
abbrev pub Unanswered : UploaderTold → UploaderTold → MerkleHash → Type 0
Unanswered u v chunk = (v.answered ≡ u.answered) × AskedOnce u v chunk

-- a query that found nothing, or failed
abbrev pub LearnedNothing : UploaderTold → UploaderTold → MerkleHash → Type 0
LearnedNothing u v chunk = Answered u v chunk None ⊎ (Unanswered u v chunk × Rose u.faults v.faults)

-- one query of the uploader for records that know a chunk
pub record Asks (u v : UploaderTold) (b n : InterfaceTold) (chunk : MerkleHash)
    (answer : Result Bool DataError) : Type 0 where
  pub same : n ≡ record b { cache = n.cache }
  pub puts : v.puts ≡ u.puts
  pub asked : Unanswered u v chunk ⊎ ((a : Option ShardRecord) × Answered u v chunk a)
  pub learned : (n.cache.records ≡ b.cache.records) ⊎ Learned u v b n chunk
  pub yes : IfOk answer (λ y. y ≡ true → Learned u v b n chunk)
  pub no : IfOk answer (λ y. y ≡ false → (n ≡ b) × LearnedNothing u v chunk)
  pub faults : u.faults ≤ v.faults
  pub cache : b.cache.faults ≤ n.cache.faults
  pub why : IfErr answer (StoreFails b.cache.faults n.cache.faults)

-- ---- puts of shards

-- a put failed with this error, which is kept; where memory was wanting no fault came
pub record PutFailed (u v : UploaderTold) (after : Option ClientError) (e : DataError) : Type 0 where
  pub error : ClientError
  pub kept : after ≡ Some error
  pub told : e ≡ of_client_error error
  pub rose : error ≡ client_error.Failed → Rose u.faults v.faults
  pub memory : error ≡ client_error.OutOfMemory → v.faults ≡ u.faults

-- no put failed, so that the faults stay, and the call fails for another cause; or a put failed, and it answers so
abbrev pub FailsSo : UploaderTold → UploaderTold → Option ClientError → Option ClientError
    → (DataError → Type 0) → DataError → Type 0
FailsSo u v before after Other e = ((after ≡ before) × (v.faults ≡ u.faults) × Other e) ⊎ PutFailed u v after e

-- what a call that puts keeps of a failed put, and why it fails
pub record Fails {A : Type 0} (u v : UploaderTold) (before after : Option ClientError)
    (Other : DataError → Type 0) (answer : Result A DataError) : Type 0 where
  pub ok : OnOk answer (after ≡ before)
  pub unfailed : OnOk answer (v.faults ≡ u.faults)
  pub err : IfErr answer (FailsSo u v before after Other)
  pub faults : u.faults ≤ v.faults

-- the put of one shard: it is in the log and in the cache, or in the log alone, or the failure is kept
pub record PutsShard (u v : UploaderTold) (b n : InterfaceTold) (before after : Option ClientError)
    (s : ShardRecord) (answer : Result (Unit {0}) DataError) : Type 0 where
  pub same : n ≡ record b { cache = n.cache }
  pub ok : OnOk answer ((v.puts ≡ with_puts u.puts (s ∷ []))
      × (n.cache.records ≡ option_map (λ r. with_records r s) b.cache.records))
  pub err : OnErr answer ((n.cache.records ≡ b.cache.records)
      × ((v.puts ≡ u.puts) ⊎ (v.puts ≡ with_puts u.puts (s ∷ []))))
  pub unput : (after ≡ before) ⊎ (v.puts ≡ u.puts)
  pub first : v.first ≡ u.first
  pub asked : v.asked ≡ u.asked
  pub answered : v.answered ≡ u.answered
  pub failure : Fails u v before after (StoreFails b.cache.faults n.cache.faults) answer
  pub cache : b.cache.faults ≤ n.cache.faults

-- no put failed; or one failed, so that shards are left, and the cache has all that were put
abbrev pub StopsAtFailure : Option ClientError → Option ClientError → ℕ → ℕ → List ShardRecord → Type 0
StopsAtFailure before after count kept ss = (after ≡ before) ⊎ ((kept ≡ count) × (count < length ss))

-- the puts of some shards, in order: the first `count` of them are in the log, and the first `kept` of these in the
-- cache, which are all but the last at least
pub record PutsShards (u v : UploaderTold) (b n : InterfaceTold) (before after : Option ClientError)
    (ss : List ShardRecord) (answer : Result (Unit {0}) DataError) : Type 0 where
  pub same : n ≡ record b { cache = n.cache }
  pub ok : OnOk answer ((v.puts ≡ with_puts u.puts ss)
      × (n.cache.records ≡ all_with_shards b.cache.records ss))
  pub count : ℕ
  pub some : v.puts ≡ with_puts u.puts (take count ss)
  pub kept : ℕ
  pub fewer : kept ≤ count
  pub close : count ≤ kept + 1
  pub cached : n.cache.records ≡ all_with_shards b.cache.records (take kept ss)
  pub unput : StopsAtFailure before after count kept ss
  pub first : v.first ≡ u.first
  pub asked : v.asked ≡ u.asked
  pub answered : v.answered ≡ u.answered
  pub failure : Fails u v before after (StoreFails b.cache.faults n.cache.faults) answer
  pub cache : b.cache.faults ≤ n.cache.faults

-- no records, where there are any that are told
abbrev pub forgotten : Option (Option ShardRecord) → Option (Option ShardRecord)
forgotten o = option_map (λ r. option_map (λ s. no_records) r) o

-- the resumed records are forgotten, or are as they were
pub record Forgets (b n : InterfaceTold) : Type 0 where
  pub same : n ≡ record b { resumed = n.resumed }
  pub resumed : (resumed_records n.resumed ≡ resumed_records b.resumed)
      ⊎ (resumed_records n.resumed ≡ forgotten (resumed_records b.resumed))
  pub faults : resumed_faults b.resumed ≤ resumed_faults n.resumed

-- the resumed records are forgotten, or their store failed
abbrev pub Forgot : Option ShardsTold → Option ShardsTold → Type 0
Forgot before after = (resumed_records after ≡ forgotten (resumed_records before))
    ⊎ Rose (resumed_faults before) (resumed_faults after)

-- ---- all records of the session

-- the sum of the sizes
abbrev pub sizes : List ShardRecord → ℕ
sizes ss = min (sum_by shard_size ss) (2 ^ 64 - 1)

-- the shards that the records of the session become
abbrev pub shards_of : InterfaceTold → List ShardRecord
shards_of b = shards_in b.rules.shard_max_target_size (records_of b.session)

-- the shards that the records of the session become were made
pub record MakesShards (b n : InterfaceTold) (answer : Result (List ShardRecord) DataError) : Type 0 where
  pub same : n ≡ record b { session = n.session }
  pub records : n.session.records ≡ b.session.records
  pub shards : IsSome b.session.records → IfOk answer (λ ss. ss ≡ shards_of b)
  pub faults : b.session.faults ≤ n.session.faults
  pub why : IfErr answer (StoreFails b.session.faults n.session.faults)

-- why it fails: want of memory, or the session's store or the cache failed
abbrev pub UploadFails : InterfaceTold → InterfaceTold → DataError → Type 0
UploadFails b n e = StoreFails b.session.faults n.session.faults e ⊎ StoreFails b.cache.faults n.cache.faults e

-- the puts of all records of the session: what the log, the cache and the resumed store gain or lose
pub record Uploads (u v : UploaderTold) (b n : InterfaceTold) (before after : Option ClientError)
    (answer : Result ℕ DataError) : Type 0 where
  pub same : n ≡ record b { resumed = n.resumed; session = n.session; cache = n.cache }
  pub session : n.session.records ≡ b.session.records
  pub dry : b.rules.dry_run ≡ true → (v ≡ u) × (known_told n ≡ known_told b)
  pub count : ℕ
  pub some : IsSome b.session.records → v.puts ≡ with_puts u.puts (take count (shards_of b))
  pub ok : IsSome b.session.records → b.rules.dry_run ≡ false
      → OnOk answer (v.puts ≡ with_puts u.puts (shards_of b))
  pub learned : IsSome b.session.records → b.rules.dry_run ≡ false
      → OnOk answer (n.cache.records ≡ all_with_shards b.cache.records (shards_of b))
  pub sum : IsSome b.session.records → IfOk answer (λ k. k ≡ sizes (shards_of b))
  pub kept : ℕ
  pub fewer : kept ≤ count
  pub close : count ≤ kept + 1
  pub cached : IsSome b.session.records
      → n.cache.records ≡ all_with_shards b.cache.records (take kept (shards_of b))
  pub unput : IsSome b.session.records → StopsAtFailure before after count kept (shards_of b)
  pub resumed : (resumed_records n.resumed ≡ resumed_records b.resumed)
      ⊎ (resumed_records n.resumed ≡ forgotten (resumed_records b.resumed))
  pub unforgotten : OnErr answer (resumed_records n.resumed ≡ resumed_records b.resumed)
  pub forgot : b.rules.dry_run ≡ false → OnOk answer (Forgot b.resumed n.resumed)
  pub first : v.first ≡ u.first
  pub asked : v.asked ≡ u.asked
  pub answered : v.answered ≡ u.answered
  pub failure : Fails u v before after (UploadFails b n) answer
  pub faults : LaterFaults b n

-- the same, where no put had failed before
abbrev pub UploadsAll : UploaderTold → UploaderTold → InterfaceTold → InterfaceTold → Result ℕ DataError → Type 0
UploadsAll u v b n answer = (after : Option ClientError) × Uploads u v b n None after answer

-- where each xorb that a file record of the session names was put or is known, what is put is in order
abbrev pub PutsInOrder : UploaderTold → UploaderTold → InterfaceTold → Type 0
PutsInOrder u v b = (known : List MerkleHash) → IsSome u.puts → IsSome b.session.records
    → All (IsThere (puts_of u) known) (names_of (records_of b.session).files)
    → IsOrdered (puts_of v) (length (puts_of u)) known
