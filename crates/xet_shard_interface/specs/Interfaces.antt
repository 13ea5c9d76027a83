-- What the stores of records of a session tell, and what the calls on them may change.
use Rattle.std.specs.Prelude.{ℕ, ◌≡◌, ◌+◌, ◌-◌, ◌^◌, ◌≤◌, ◌⊎◌, min, Bool, true, false, if◌then◌else◌, List, [], ◌∷◌}
use Rattle.std.specs.Prelude.{◌++◌, length, ltb, leb, ◌||◌, Option, None, IfSome, IsSome, option_map, unwrap_or, Result}
use Rattle.std.specs.Prelude.{Ok, IfOk, OnOk, OnErr, IfErr}
use Rattle.std.specs.Option.{option_or}
use Rattle.xet_base.specs.declared.merklehash.MerkleHash.{MerkleHash}
use Rattle.xet_base.specs.declared.mdb_shard.FileDataSequenceEntry.{FileDataSequenceEntry}
use Rattle.xet_base.specs.declared.mdb_shard.MDBXorbInfo.{MDBXorbInfo}
use Rattle.xet_base.specs.declared.mdb_shard.MDBFileInfo.{MDBFileInfo}
use Rattle.xet_base.specs.declared.mdb_shard.ShardRecord.{ShardRecord}
use Rattle.xet_outside.specs.Told.{Rose}
use Rattle.xet_pointer.specs.declared.translator_config.TranslatorConfig.{TranslatorConfig}
use Rattle.xet_shards.specs.Runs.{IsRun, find_in}
use Rattle.xet_shards.specs.Shards.{ShardsTold, no_records, with_records}
use Rattle.xet_upload.specs.declared.data_error.DataError.{DataError}
use Rattle.xet_upload.specs.declared.data_error.DataError.TheVariants as data_error
use Rattle.xet_shard_interface.specs.declared.shard_interface.SessionShardInterface.{SessionShardInterface}
use Rattle.xet_shard_interface.specs.declared.shard_interface.SessionStores.{SessionStores}
use Rattle.xet_shard_interface.specs.declared.shard_interface.ShardRules.{ShardRules}

-- the stores as they tell, the records that are not staged yet, the moment of the last flush, and the rules
pub record InterfaceTold : Type 0 where
  pub resumed : Option ShardsTold
  pub session : ShardsTold
  pub cache : ShardsTold
  pub staging : ShardsTold
  pub staged : List MDBXorbInfo
  pub flushed : ℕ
  pub rules : ShardRules

abbrev pub shards_told : {R : Type 0} → (R → ShardsTold) → SessionShardInterface R → InterfaceTold
shards_told r s = record {
  resumed = option_map r s.stores.resumed;
  session = r s.stores.session;
  cache = r s.stores.cache;
  staging = r s.stores.staging;
  staged = s.staged.items;
  flushed = s.flushed;
  rules = s.rules;
}

-- what the settings say of records
abbrev pub rules_of : TranslatorConfig → Bool → ShardRules
rules_of c dry = record {
  dry_run = dry;
  flush_interval = c.session_xorb_metadata_flush_interval;
  flush_max_count = c.session_xorb_metadata_flush_max_count;
  shard_max_target_size = c.shard_max_target_size;
}

-- stores to which nothing was added yet, from this moment on
abbrev pub new_interface : {R : Type 0} → (R → ShardsTold) → ShardRules → SessionStores R → ℕ → InterfaceTold
new_interface r rules s now = record {
  resumed = option_map r s.resumed;
  session = r s.session;
  cache = r s.cache;
  staging = r s.staging;
  staged = [];
  flushed = now;
  rules = rules;
}

abbrev pub records_of : ShardsTold → ShardRecord
records_of o = unwrap_or o.records no_records

-- the records that a resumed store tells, where there is one
abbrev pub resumed_records : Option ShardsTold → Option (Option ShardRecord)
resumed_records o = option_map (λ s. s.records) o

-- its faults
abbrev pub resumed_faults : Option ShardsTold → ℕ
resumed_faults o = unwrap_or (option_map (λ s. s.faults) o) 0

-- the records of the resumed store and of the cache, which are known
abbrev pub known_told : InterfaceTold → Option (Option ShardRecord) × Option ShardRecord
known_told i = (resumed_records i.resumed, i.cache.records)

-- the xorb records of a resumed store, where there is one that tells
abbrev pub resumed_xorbs : Option (Option ShardRecord) → List MDBXorbInfo
resumed_xorbs o = (unwrap_or (unwrap_or o None) no_records).xorbs

abbrev pub known_xorbs : Option (Option ShardRecord) × Option ShardRecord → List MDBXorbInfo
known_xorbs k = resumed_xorbs k.0 ++ (unwrap_or k.1 no_records).xorbs

-- the stores tell
pub record StoresTell (i : InterfaceTold) : Type 0 where
  pub resumed : IfSome (resumed_records i.resumed) (λ o. IsSome o)
  pub session : IsSome i.session.records
  pub cache : IsSome i.cache.records
  pub staging : IsSome i.staging.records

-- why a call of a store fails: want of memory, or its count of faults rose
abbrev pub StoreFails : ℕ → ℕ → DataError → Type 0
StoreFails before after e = (e ≡ data_error.OutOfMemory) ⊎ ((e ≡ data_error.IOError) × Rose before after)

-- records come behind those of the session
pub record AddsRecords (b n : InterfaceTold) (shard : ShardRecord)
    (answer : Result (Unit {0}) DataError) : Type 0 where
  pub same : n ≡ record b { session = n.session }
  pub added : OnOk answer (n.session.records ≡ option_map (λ r. with_records r shard) b.session.records)
  pub kept : OnErr answer (n.session.records ≡ b.session.records)
  pub faults : b.session.faults ≤ n.session.faults
  pub why : IfErr answer (StoreFails b.session.faults n.session.faults)

-- the file records of the session
pub record ListsFiles (b n : InterfaceTold) (answer : Result (List MDBFileInfo) DataError) : Type 0 where
  pub same : n ≡ record b { session = n.session }
  pub records : n.session.records ≡ b.session.records
  pub files : IfSome b.session.records (λ r. IfOk answer (λ fs. fs ≡ r.files))
  pub faults : b.session.faults ≤ n.session.faults
  pub why : IfErr answer (StoreFails b.session.faults n.session.faults)

-- ---- searches

-- a run that was found, and whether its record is known from elsewhere
abbrev pub noted : Bool → Option (ℕ × FileDataSequenceEntry) → Option (ℕ × FileDataSequenceEntry × Bool)
noted k o = option_map (λ f. (f.0, f.1, k)) o

-- the resumed records that are searched: none in a dry run
abbrev pub searched_resumed : InterfaceTold → List MDBXorbInfo
searched_resumed i = if i.rules.dry_run then [] else resumed_xorbs (resumed_records i.resumed)

-- what a search finds: first in the resumed records, then in those of the session, then in those of the cache
abbrev pub found_in : InterfaceTold → List MerkleHash → Option (ℕ × FileDataSequenceEntry × Bool)
found_in i hs = option_or (noted true (find_in (searched_resumed i) hs))
    (option_or (noted false (find_in (records_of i.session).xorbs hs))
    (noted true (find_in (records_of i.cache).xorbs hs)))

-- a call that leaves all records
pub record Looks (b n : InterfaceTold) : Type 0 where
  pub same : n ≡ record b { resumed = n.resumed; session = n.session; cache = n.cache }
  pub known : known_told n ≡ known_told b
  pub session : n.session.records ≡ b.session.records

-- the stores that a search looks into tell; a dry run looks into no resumed one
pub record SearchTells (i : InterfaceTold) : Type 0 where
  pub resumed : i.rules.dry_run ≡ false → IfSome (resumed_records i.resumed) (λ o. IsSome o)
  pub session : IsSome i.session.records
  pub cache : IsSome i.cache.records

-- why a search of the resumed records fails, which a dry run makes none of
abbrev pub ResumedFails : InterfaceTold → InterfaceTold → DataError → Type 0
ResumedFails b n e =
    (b.rules.dry_run ≡ false) × StoreFails (resumed_faults b.resumed) (resumed_faults n.resumed) e

-- a search of the resumed records
pub record LooksResumed (b n : InterfaceTold) (hashes : List MerkleHash)
    (answer : Result (Option (ℕ × FileDataSequenceEntry)) DataError) : Type 0 where
  pub same : n ≡ record b { resumed = n.resumed }
  pub records : resumed_records n.resumed ≡ resumed_records b.resumed
  pub dry : b.rules.dry_run ≡ true → n ≡ b
  pub found : SearchTells b → IfOk answer (λ o. o ≡ find_in (searched_resumed b) hashes)
  pub run : IfOk answer (λ o. IfSome o (λ f. IsRun hashes f.0 f.1))
  pub faults : resumed_faults b.resumed ≤ resumed_faults n.resumed
  pub why : IfErr answer (ResumedFails b n)

-- no count of faults fell
pub record LaterFaults (b n : InterfaceTold) : Type 0 where
  pub resumed : resumed_faults b.resumed ≤ resumed_faults n.resumed
  pub session : b.session.faults ≤ n.session.faults
  pub cache : b.cache.faults ≤ n.cache.faults
  pub staging : b.staging.faults ≤ n.staging.faults

-- why a search fails: want of memory, or a store that it asks failed
abbrev pub SearchFails : InterfaceTold → InterfaceTold → DataError → Type 0
SearchFails b n e = ResumedFails b n e
    ⊎ StoreFails b.session.faults n.session.faults e ⊎ StoreFails b.cache.faults n.cache.faults e

-- a store makes a search fail only where those that are asked before it have nothing
abbrev pub FailsInOrder : InterfaceTold → InterfaceTold → List MerkleHash → DataError → Type 0
FailsInOrder b n hs e = (e ≡ data_error.OutOfMemory) ⊎ ResumedFails b n e
    ⊎ ((find_in (searched_resumed b) hs ≡ None) × StoreFails b.session.faults n.session.faults e)
    ⊎ ((find_in (searched_resumed b) hs ≡ None) × (find_in (records_of b.session).xorbs hs ≡ None)
    × StoreFails b.cache.faults n.cache.faults e)

-- a store is searched only where those before it have no such run
pub record AsksInOrder (b n : InterfaceTold) (hs : List MerkleHash) : Type 0 where
  pub session : IsSome (find_in (searched_resumed b) hs) → n.session ≡ b.session
  pub cache : IsSome (find_in (searched_resumed b) hs) ⊎ IsSome (find_in (records_of b.session).xorbs hs)
      → n.cache ≡ b.cache

-- a search of the resumed records, then of those of the session, then of those of the cache
pub record Searches (b n : InterfaceTold) (hashes : List MerkleHash)
    (answer : Result (Option (ℕ × FileDataSequenceEntry × Bool)) DataError) : Type 0 where
  pub looks : Looks b n
  pub dry : b.rules.dry_run ≡ true → n.resumed ≡ b.resumed
  pub found : SearchTells b → IfOk answer (λ o. o ≡ found_in b hashes)
  pub run : IfOk answer (λ o. IfSome o (λ f. IsRun hashes f.0 f.1))
  pub faults : LaterFaults b n
  pub why : IfErr answer (SearchFails b n)
  pub order : SearchTells b → IfErr answer (FailsInOrder b n hashes)
  pub asks : SearchTells b → AsksInOrder b n hashes

-- ---- staging

-- whether a flush is due once one record more waits
abbrev pub is_due : InterfaceTold → ℕ → Bool
is_due i now = ltb (min (i.flushed + i.rules.flush_interval) (2 ^ 64 - 1)) now
    || leb i.rules.flush_max_count (length i.staged)

-- the waiting records went to staging, or wait on
pub record Flushes (b n : InterfaceTold) (now : ℕ) (answer : Result (Unit {0}) DataError) : Type 0 where
  pub ok : OnOk answer (n ≡ record b { staging = n.staging; staged = []; flushed = now })
  pub err : OnErr answer (n ≡ record b { staging = n.staging })
  pub staged : OnOk answer (n.staging.records
      ≡ option_map (λ r. with_records r (record { xorbs = b.staged; files = [] })) b.staging.records)
  pub kept : OnErr answer (n.staging.records ≡ b.staging.records)
  pub faults : b.staging.faults ≤ n.staging.faults
  pub why : IfErr answer (StoreFails b.staging.faults n.staging.faults)

-- a record more waits
abbrev pub with_staged : InterfaceTold → MDBXorbInfo → InterfaceTold
with_staged b x = record b { staged = b.staged ++ x ∷ [] }

-- nothing changed, or a record more waits and the staging records are as they were
pub record Waits (b n : InterfaceTold) (x : MDBXorbInfo) : Type 0 where
  pub same : (n ≡ b) ⊎ (n ≡ record (with_staged b x) { staging = n.staging })
  pub records : n.staging.records ≡ b.staging.records

-- a record more waits, or all that wait went to staging; after an error none is lost
pub record StagesXorb (b n : InterfaceTold) (x : MDBXorbInfo) (now : ℕ)
    (answer : Result (Unit {0}) DataError) : Type 0 where
  pub dry : b.rules.dry_run ≡ true → (n ≡ b) × (answer ≡ Ok tt)
  pub same : n ≡ record b { staging = n.staging; staged = n.staged; flushed = n.flushed }
  pub tells : IsSome b.staging.records → IsSome n.staging.records
  pub waits : b.rules.dry_run ≡ false → is_due (with_staged b x) now ≡ false
      → OnOk answer (n ≡ with_staged b x)
  pub flushed : b.rules.dry_run ≡ false → is_due (with_staged b x) now ≡ true
      → OnOk answer (Flushes (with_staged b x) n now (Ok tt))
  pub kept : OnErr answer (Waits b n x)
  pub faults : b.staging.faults ≤ n.staging.faults
  pub why : IfErr answer (StoreFails b.staging.faults n.staging.faults)
