-- What the calls of an upload session may change, and what they answer.
use Rattle.std.specs.Prelude.{ℕ, ◌≡◌, ◌+◌, ◌-◌, ◌^◌, ◌⊎◌, ◌<◌, ◌≤◌, min, Bool, true, false, List, [], ◌∷◌, ◌++◌, length}
use Rattle.std.specs.Prelude.{map, take, Contains, Option, None, Some, IfSome, is_some, option_map, Result, Ok, Err}
use Rattle.std.specs.Prelude.{IfOk, IfErr, OnOk, OnErr}
use Rattle.std.specs.List.{concat, sum_by}
use Rattle.xet_base.specs.declared.invalid.Invalid.{Invalid}
use Rattle.xet_base.specs.declared.invalid.Invalid.TheVariants as invalid
use Rattle.xet_base.specs.declared.merklehash.MerkleHash.{MerkleHash}
use Rattle.xet_base.specs.declared.mdb_shard.Xorb.{Xorb}
use Rattle.xet_base.specs.declared.mdb_shard.MDBXorbInfo.{MDBXorbInfo}
use Rattle.xet_base.specs.declared.mdb_shard.FileDataSequenceEntry.{FileDataSequenceEntry}
use Rattle.xet_base.specs.declared.mdb_shard.MDBFileInfo.{MDBFileInfo}
use Rattle.xet_base.specs.declared.mdb_shard.ShardRecord.{ShardRecord}
use Rattle.xet_base.specs.Digests.{infos_of, xorb_hash_of}
use Rattle.xet_base.specs.Store.{Store}
use Rattle.xet_outside.specs.declared.client.ClientError.{ClientError}
use Rattle.xet_outside.specs.declared.client.ClientError.TheVariants as client_error
use Rattle.xet_outside.specs.Told.{Rose}
use Rattle.xet_uploader.specs.declared.uploader.Put.{Put}
use Rattle.xet_uploader.specs.declared.uploader.Put.TheVariants as put
use Rattle.xet_uploader.specs.Uploads.{UploaderTold}
use Rattle.xet_shards.specs.Runs.{IsRun}
use Rattle.xet_shards.specs.Shards.{ShardsTold, with_records}
use Rattle.xet_shard_interface.specs.Interfaces.{AddsRecords, FailsInOrder, InterfaceTold, LaterFaults, SearchFails}
use Rattle.xet_shard_interface.specs.Interfaces.{SearchTells, Searches, StagesXorb, StoreFails, found_in, known_told}
use Rattle.xet_shard_interface.specs.Interfaces.{records_of, resumed_faults, resumed_records}
use Rattle.xet_session_end.specs.Ends.{end_counts}
use Rattle.xet_shard_interface.specs.Puts.{Forgot, StopsAtFailure, all_with_shards, forgotten, shards_of, sizes}
use Rattle.xet_upload.specs.DataErrors.{of_client_error}
use Rattle.xet_upload.specs.Metrics.{no_counts}
use Rattle.xet_upload.specs.Orders.{IsOrdered}
use Rattle.xet_upload.specs.Standing.{world}
use Rattle.xet_upload.specs.Waitings.{no_waiting, record_of_file, xorb_of_chunks}
use Rattle.xet_upload.specs.declared.data_error.DataError.{DataError}
use Rattle.xet_upload.specs.declared.data_error.DataError.TheVariants as data_error
use Rattle.xet_upload.specs.declared.metrics.DeduplicationMetrics.{DeduplicationMetrics}
use Rattle.xet_upload_parts.specs.Storable.{IsStorable}
use Rattle.xet_upload_parts.specs.declared.cut_thresholds.CutThresholds.{CutThresholds}
use Rattle.xet_upload_session.specs.Sounds.{IsSound, XorbsAgree}
use Rattle.xet_upload_session.specs.Sessions.{HasListed, IsBackedSession, IsListed, SessionTold, Stands, Tells}
use Rattle.xet_upload_session.specs.Sessions.{known_of, log_of}
use Rattle.xet_shard_interface.specs.Puts.{Asks}

-- a session in which nothing waits and nothing was put
abbrev pub new_session : UploaderTold → InterfaceTold → Bool → CutThresholds → SessionTold
new_session u i q t = record {
  uploader = u;
  shards = i;
  waiting = no_waiting;
  finished = [];
  listed = [];
  registered = [];
  repeated = [];
  metrics = no_counts;
  failed = None;
  finalized = false;
  queries = q;
  thresholds = t;
}

-- ---- why a call fails

-- a store of records failed
abbrev pub StoresFail : InterfaceTold → InterfaceTold → DataError → Type 0
StoresFail b n e = StoreFails (resumed_faults b.resumed) (resumed_faults n.resumed) e
    ⊎ StoreFails b.session.faults n.session.faults e ⊎ StoreFails b.cache.faults n.cache.faults e
    ⊎ StoreFails b.staging.faults n.staging.faults e

-- a call that puts fails for want of memory, where a store of records failed, or with the failure that is kept
abbrev pub PutsFail : SessionTold → SessionTold → DataError → Type 0
PutsFail b n e = StoresFail b.shards n.shards e
    ⊎ ((f : ClientError) × (n.failed ≡ Some f) × (e ≡ of_client_error f))

-- the uploader was asked for no records, and is one to the same store
pub record NoQueries (b n : SessionTold) : Type 0 where
  pub first : n.uploader.first ≡ b.uploader.first
  pub asked : n.uploader.asked ≡ b.uploader.asked
  pub answered : n.uploader.answered ≡ b.uploader.answered

-- a failure that is kept stays, and a new one was met in this call
pub record KeepsFailed (b n : SessionTold) : Type 0 where
  pub stays : is_some b.failed ≡ true → n.failed ≡ b.failed
  pub met : n.failed ≡ Some client_error.Failed
      → (b.failed ≡ Some client_error.Failed) ⊎ Rose b.uploader.faults n.uploader.faults
  pub faults : b.uploader.faults ≤ n.uploader.faults

-- the uploader's faults stay, but where a put that failed is kept in this call
abbrev pub FaultsStay : SessionTold → SessionTold → Type 0
FaultsStay b n = (n.failed ≡ b.failed) ⊎ (n.failed ≡ Some client_error.OutOfMemory)
    → n.uploader.faults ≡ b.uploader.faults

-- a put that failed, and is kept, is answered as the uploader answered it
abbrev pub Says : {A : Type 0} → SessionTold → Result A DataError → Type 0
Says n answer = (e : ClientError) → n.failed ≡ Some e → answer ≡ Err (of_client_error e)

-- ---- calls that put xorbs

-- how many bytes the chunks of a xorb have
abbrev pub xorb_bytes : Xorb → ℕ
xorb_bytes x = length (concat x.chunks)

-- the bytes of xorbs are counted alone
abbrev pub CountsSent : SessionTold → SessionTold → Type 0
CountsSent b n = n.metrics ≡ record b.metrics { xorb_bytes_uploaded = n.metrics.xorb_bytes_uploaded }

-- the log grew by xorbs alone, and the counts by their bytes
pub record GrewByXorbs (b n : SessionTold) : Type 0 where
  pub xorbs : List Xorb
  pub grown : log_of n ≡ log_of b ++ map put.Xorb xorbs
  pub sent : b.metrics.xorb_bytes_uploaded < 2 ^ 64 → n.metrics.xorb_bytes_uploaded
      ≡ min (b.metrics.xorb_bytes_uploaded + sum_by xorb_bytes xorbs) (2 ^ 64 - 1)

-- the xorbs that were not put again stay told, and some may be told more
abbrev pub RepeatsGrow : SessionTold → SessionTold → Type 0
RepeatsGrow b n = (xs : List Xorb) × (n.repeated ≡ b.repeated ++ xs)

-- a call that puts xorbs alone, and after which each named xorb is there if it was before; over a store k of the known
-- xorbs, and where xorbs agree, the searched records go on describing xorbs that are there
pub record Keeps (b n : SessionTold) : Type 0 where
  pub tells : Tells b → Tells n
  pub grew : Tells b → GrewByXorbs b n
  pub repeated : RepeatsGrow b n
  pub stands : Tells b → Stands b → Stands n
  pub sound : (k : Store) → Tells b → XorbsAgree (world k (log_of n)) → IsSound k b → IsSound k n
  pub known : known_told n.shards ≡ known_told b.shards
  pub rules : n.shards.rules ≡ b.shards.rules
  pub files : (records_of n.shards.session).files ≡ (records_of b.shards.session).files
  pub quiet : is_some b.failed ≡ true → log_of n ≡ log_of b
  pub queries : NoQueries b n
  pub failed : KeepsFailed b n
  pub steady : FaultsStay b n
  pub stores : LaterFaults b.shards n.shards
  pub finalized : n.finalized ≡ b.finalized

-- what is named is on the list, a backed session stays backed at each exit, and what the call put is in order
pub record Backs (b n : SessionTold) : Type 0 where
  pub listed : HasListed n
  pub backed : Tells b → IsBackedSession b → IsBackedSession n
  pub ordered : Tells b → IsBackedSession b → IsOrdered (log_of n) (length (log_of b)) (known_of b)

-- ---- the put of one xorb

-- the record of a xorb alone
abbrev pub one_xorb : MDBXorbInfo → ShardRecord
one_xorb x = record { xorbs = x ∷ []; files = [] }

-- the record of a xorb
abbrev pub record_of_xorb : Xorb → MDBXorbInfo
record_of_xorb x = record { hash = x.hash; num_bytes = xorb_bytes x; chunks = infos_of x.chunks }

-- a record came behind those of the session, and then waits for staging or went there
pub record Records (b n : InterfaceTold) (x : MDBXorbInfo) (now : ℕ)
    (answer : Result (Unit {0}) DataError) : Type 0 where
  pub session : ShardsTold
  pub adds : AddsRecords b (record b { session = session }) (one_xorb x) (Ok tt)
  pub stages : StagesXorb (record b { session = session }) n x now answer

-- the record of a xorb was recorded; an error leaves the session's records, or comes with the staging, or is want of
-- memory of the tracker
pub record Recorded (b n : InterfaceTold) (x : MDBXorbInfo) (now : ℕ)
    (answer : Result (Unit {0}) DataError) : Type 0 where
  pub ok : OnOk answer (Records b n x now answer)
  pub err : OnErr answer (AddsRecords b n (one_xorb x) answer ⊎ Records b n x now answer
      ⊎ ((answer ≡ Err data_error.OutOfMemory) × Records b n x now (Ok tt)))

-- a xorb was put: its hash came onto both lists, its files are finished, and its record was recorded or refused
pub record WasPut (b n : SessionTold) (x : Xorb) (fs : List MDBFileInfo) (now : ℕ)
    (answer : Result (Unit {0}) DataError) : Type 0 where
  pub same : n ≡ record b {
    uploader = n.uploader;
    shards = n.shards;
    finished = b.finished ++ fs;
    listed = b.listed ++ x.hash ∷ [];
    registered = b.registered ++ x.hash ∷ [];
    metrics = n.metrics;
  }
  pub log : Tells b → log_of n ≡ log_of b ++ put.Xorb x ∷ []
  pub recorded : Recorded b.shards n.shards (record_of_xorb x) now answer

-- a put failed: the failure is kept, and nothing else changed
pub record WasRefused (b n : SessionTold) : Type 0 where
  pub same : n ≡ record b { uploader = n.uploader; failed = n.failed }
  pub log : log_of n ≡ log_of b
  pub kept : is_some n.failed ≡ true

-- ---- a cut

-- the hash of what waits
abbrev pub waiting_hash : SessionTold → MerkleHash
waiting_hash b = xorb_hash_of (infos_of b.waiting.chunks)

-- the records of the waiting files
abbrev pub waiting_records : SessionTold → List MDBFileInfo
waiting_records b = map (record_of_file (waiting_hash b)) b.waiting.files

-- nothing waits
abbrev pub without_waiting : SessionTold → SessionTold
without_waiting b = record b { waiting = no_waiting }

-- one more xorb was not put, since one of its hash was put before
abbrev pub with_repeated : SessionTold → Xorb → SessionTold
with_repeated b x = record b { repeated = b.repeated ++ x ∷ [] }

-- some chunks wait whose hash a xorb has that was put before; it is told that theirs is not put
pub record CutRepeated (b n : SessionTold) : Type 0 where
  pub some : 0 < length b.waiting.chunks
  pub before : Contains b.registered (waiting_hash b)
  pub told : n.repeated ≡ b.repeated ++ xorb_of_chunks b.waiting.chunks ∷ []

-- nothing was put, since no chunk waits, or a xorb of the hash was put before; the files are finished
pub record CutStill (b n : SessionTold) : Type 0 where
  pub same : n ≡ record (without_waiting b) { finished = b.finished ++ waiting_records b; repeated = n.repeated }
  pub reason : ((b.waiting.chunks ≡ []) × (n.repeated ≡ b.repeated)) ⊎ CutRepeated b n

-- what waits was put as a xorb, which has some chunks, and of whose hash none was put before
pub record CutPut (b n : SessionTold) (now : ℕ) (answer : Result (Unit {0}) DataError) : Type 0 where
  pub put : WasPut (without_waiting b) n (xorb_of_chunks b.waiting.chunks) (waiting_records b) now answer
  pub some : 0 < length b.waiting.chunks
  pub new : Contains b.registered (waiting_hash b) → ⊥

-- what a cut leaves that fails: what waits waits on; or the put failed; or it was put, and a store refused its record
abbrev pub CutStopped : SessionTold → SessionTold → ℕ → Result (Unit {0}) DataError → Type 0
CutStopped b n now answer = (n ≡ b) ⊎ WasRefused (without_waiting b) n ⊎ CutPut b n now answer

-- a cut: nothing waits afterwards, what waited is listed, and its files are finished; after a failed put that is kept
-- nothing changes; a xorb of what waited can be stored
pub record Cut (b n : SessionTold) (now : ℕ) (answer : Result (Unit {0}) DataError) : Type 0 where
  pub keeps : Keeps b n
  pub storable : IsStorable b.waiting.chunks
  pub listed : IsListed b → n.failed ≡ None → IsListed n
  pub ok : OnOk answer (CutStill b n ⊎ CutPut b n now answer)
  pub err : OnErr answer (CutStopped b n now answer)
  pub emptied : OnOk answer (n.waiting ≡ no_waiting)
  pub finished : OnOk answer (n.finished ≡ b.finished ++ waiting_records b)
  pub counts : CountsSent b n
  pub unfailed : OnOk answer (n.failed ≡ None)
  pub idle : is_some b.failed ≡ true → n ≡ b
  pub said : Says n answer
  pub refused : (e : ClientError) → b.failed ≡ Some e → answer ≡ Err (of_client_error e)
  pub why : IfErr answer (PutsFail b n)

-- a given xorb of a new hash was put, or it has no chunks and nothing changed
pub record RegisteredNew (b n : SessionTold) (x : Xorb) (now : ℕ) : Type 0 where
  pub new : Contains b.registered x.hash → ⊥
  pub put : ((x.chunks ≡ []) × (n ≡ b)) ⊎ ((0 < length x.chunks) × WasPut b n x [] now (Ok tt))

-- what a call leaves that is given a xorb and fails: all as before; or the put failed; or a store refused the record
abbrev pub RegisterStopped : SessionTold → SessionTold → Xorb → ℕ → DataError → Type 0
RegisterStopped b n x now e = (n ≡ b) ⊎ WasRefused b n ⊎ WasPut b n x [] now (Err e)

abbrev pub finalized_error : DataError
finalized_error = data_error.InvalidOperation invalid.Finalized

-- a call was refused for another cause, and nothing changed
abbrev pub Refuses : SessionTold → SessionTold → DataError → Type 0
Refuses b n e = ((why : Invalid) × (e ≡ data_error.InvalidOperation why)) × (n ≡ b)

-- a xorb was registered: it was put, or one with its hash was put before, and it is told as repeated; a call that
-- would put nothing is refused, or fails for want of memory, but never with a kept failure
pub record Registers (b n : SessionTold) (x : Xorb) (now : ℕ) (answer : Result Bool DataError) : Type 0 where
  pub keeps : Keeps b n
  pub listed : IsListed b → n.failed ≡ None → IsListed n
  pub same : n ≡ record b {
    uploader = n.uploader;
    shards = n.shards;
    listed = n.listed;
    registered = n.registered;
    repeated = n.repeated;
    metrics = n.metrics;
    failed = n.failed;
  }
  pub again : IfOk answer (λ y. y ≡ false → Contains b.registered x.hash × (n ≡ with_repeated b x))
  pub new : IfOk answer (λ y. y ≡ true → RegisteredNew b n x now)
  pub err : IfErr answer (RegisterStopped b n x now)
  pub counts : CountsSent b n
  pub finalized : b.finalized ≡ true → (answer ≡ Err finalized_error) × (n ≡ b)
  pub unfailed : IfOk answer (λ y. y ≡ true → 0 < length x.chunks → n.failed ≡ None)
  pub said : b.failed ≡ None → Says n answer
  pub refused : b.finalized ≡ false → (Contains b.registered x.hash → ⊥) → 0 < length x.chunks
      → (e : ClientError) → b.failed ≡ Some e → answer ≡ Err (of_client_error e)
  pub idle : b.finalized ≡ false → (length x.chunks ≡ 0) ⊎ Contains b.registered x.hash
      → IfErr answer (λ e. (e ≡ data_error.OutOfMemory) ⊎ Refuses b n e)
  pub why : IfErr answer (λ e. ((e ≡ finalized_error) × (b.finalized ≡ true)) ⊎ PutsFail b n e ⊎ Refuses b n e)

-- ---- searches

-- the xorb is on the list, which is as before or has it more at its end; it stays where the xorb was on it
pub record IsOnList (b n : SessionTold) (x : MerkleHash) : Type 0 where
  pub is_there : Contains n.listed x
  pub listed : (n.listed ≡ b.listed) ⊎ (n.listed ≡ b.listed ++ x ∷ [])
  pub once : Contains b.listed x → n.listed ≡ b.listed

-- a search of the stores; the xorb that it found is on the list afterwards
pub record Queries (b n : SessionTold) (hashes : List MerkleHash)
    (answer : Result (Option (ℕ × FileDataSequenceEntry × Bool)) DataError) : Type 0 where
  pub keeps : Keeps b n
  pub same : n ≡ record b { shards = n.shards; listed = n.listed }
  pub searches : Searches b.shards n.shards hashes answer
  pub found : SearchTells b.shards → IfOk answer (λ o. o ≡ found_in b.shards hashes)
  pub run : IfOk answer (λ o. IfSome o (λ f. IsRun hashes f.0 f.1))
  pub on_list : IfOk answer (λ o. IfSome o (λ f. IsOnList b n f.1.xorb))
  pub none : IfOk answer (λ o. o ≡ None → n.listed ≡ b.listed)
  pub err : OnErr answer (n.listed ≡ b.listed)
  pub listed : IsListed b → n.failed ≡ None → IsListed n
  pub why : IfErr answer (SearchFails b.shards n.shards)

-- a store makes a search fail only where those that are asked before it have nothing
abbrev pub SearchesInOrder : SessionTold → SessionTold → List MerkleHash
    → Result (Option (ℕ × FileDataSequenceEntry × Bool)) DataError → Type 0
SearchesInOrder b n hashes answer = SearchTells b.shards → IfErr answer (FailsInOrder b.shards n.shards hashes)

-- ---- the end of a session

-- a shard of the log has this file record
pub record IsPut (log : List Put) (f : MDBFileInfo) : Type 0 where
  pub shard : ShardRecord
  pub is_there : Contains log (put.Shard shard)
  pub has : Contains shard.files f

-- the resumed records are as they were, or forgotten
abbrev pub ResumedKept : InterfaceTold → InterfaceTold → Type 0
ResumedKept b n = (resumed_records n.resumed ≡ resumed_records b.resumed)
    ⊎ (resumed_records n.resumed ≡ forgotten (resumed_records b.resumed))

-- the log grew by xorbs and then by shards, and the counts by the xorbs' bytes; the cache gained some of these shards
pub record GrewToEnd (b n : SessionTold) : Type 0 where
  pub xorbs : List Xorb
  pub shards : List ShardRecord
  pub grown : log_of n ≡ log_of b ++ (map put.Xorb xorbs ++ map put.Shard shards)
  pub kept : ℕ
  pub cached : n.shards.cache.records ≡ all_with_shards b.shards.cache.records (take kept shards)
  pub resumed : ResumedKept b.shards n.shards
  pub sent : b.metrics.xorb_bytes_uploaded < 2 ^ 64 → n.metrics.xorb_bytes_uploaded
      ≡ min (b.metrics.xorb_bytes_uploaded + sum_by xorb_bytes xorbs) (2 ^ 64 - 1)

-- unless this is a dry run, all records were put as shards, and the cache has them
abbrev pub AllPut : SessionTold → SessionTold → Type 0
AllPut m n = Tells m → m.shards.rules.dry_run ≡ false
    → (log_of n ≡ log_of m ++ map put.Shard (shards_of n.shards))
    × (n.shards.cache.records ≡ all_with_shards m.shards.cache.records (shards_of n.shards))

-- the first `count` of the shards are in the log, and the first `kept` of these in the cache, which are all but the
-- last at least; where a put failed some are left, and nothing came after it
pub record SomePut (m n : SessionTold) : Type 0 where
  pub count : ℕ
  pub kept : ℕ
  pub log : log_of n ≡ log_of m ++ map put.Shard (take count (shards_of n.shards))
  pub cached : n.shards.cache.records ≡ all_with_shards m.shards.cache.records (take kept (shards_of n.shards))
  pub fewer : kept ≤ count
  pub close : count ≤ kept + 1
  pub unput : StopsAtFailure m.failed n.failed count kept (shards_of n.shards)

-- the records of the finished files, alone
abbrev pub finished_records : SessionTold → ShardRecord
finished_records m = record { xorbs = []; files = m.finished }

-- the session's records are as they were, and nothing changed but their store
abbrev pub Unadded : SessionTold → SessionTold → Type 0
Unadded m n = (n ≡ record m { shards = record m.shards { session = n.shards.session } })
    × (n.shards.session.records ≡ m.shards.session.records)

-- the end after the cut: the finished files' records came behind those of the session, and then all were put as
-- shards; an error leaves the rest undone from where it came, and the resumed records are forgotten only where all was
-- put
pub record EndsCut {A : Type 0} (m n : SessionTold) (answer : Result A DataError) : Type 0 where
  pub same : n ≡ record m { uploader = n.uploader; shards = n.shards; metrics = n.metrics; failed = n.failed }
  pub stores : n.shards ≡ record m.shards {
    resumed = n.shards.resumed;
    session = n.shards.session;
    cache = n.shards.cache;
  }
  pub all : OnOk answer (AllPut m n)
  pub some : Tells m → SomePut m n
  pub recorded : OnOk answer (n.shards.session.records
      ≡ option_map (λ r. with_records r (finished_records m)) m.shards.session.records)
  pub records : Unadded m n ⊎ (n.shards.session.records
      ≡ option_map (λ r. with_records r (finished_records m)) m.shards.session.records)
  pub dry : m.shards.rules.dry_run ≡ true → known_told n.shards ≡ known_told m.shards
  pub resumed : (resumed_records n.shards.resumed ≡ resumed_records m.shards.resumed)
      ⊎ ((resumed_records n.shards.resumed ≡ forgotten (resumed_records m.shards.resumed)) × AllPut m n)
  pub forgot : m.shards.rules.dry_run ≡ false → OnOk answer (Forgot m.shards.resumed n.shards.resumed)

-- the session is finalized
abbrev pub as_finalized : SessionTold → SessionTold
as_finalized b = record b { finalized = true }

-- the cut of what waits failed, and the call with it
abbrev pub EndsUncut : {A : Type 0} → SessionTold → SessionTold → ℕ → Result A DataError → Type 0
EndsUncut b n now answer = (e : DataError) × (answer ≡ Err e) × Cut (as_finalized b) n now (Err e)

-- what waits was cut, and then came the end
abbrev pub EndsSo : {A : Type 0} → SessionTold → SessionTold → ℕ → Result A DataError → Type 0
EndsSo b n now answer = (m : SessionTold) × Cut (as_finalized b) m now (Ok tt) × EndsCut m n answer

-- the log is ordered at the exit of `finalize`, whatever it answers; an Ok means that no put failed, and that the
-- record of each file that was finished or waited was put
pub record Finalizes {A : Type 0} (b n : SessionTold) (now : ℕ) (answer : Result A DataError) : Type 0 where
  pub ends : b.finalized ≡ false → EndsUncut b n now answer ⊎ EndsSo b n now answer
  pub tells : Tells b → Tells n
  pub ordered : Tells b → Stands b → IsListed b → IsOrdered (log_of n) (length (log_of b)) (known_of b)
  pub finalized : n.finalized ≡ true
  pub unfailed : OnOk answer (n.failed ≡ None)
  pub finished : OnOk answer (n.finished ≡ b.finished ++ waiting_records b)
  pub recorded : Tells b → OnOk answer ((records_of n.shards.session).files
      ≡ (records_of b.shards.session).files ++ n.finished)
  pub put : Tells b → b.shards.rules.dry_run ≡ false
      → OnOk answer ((f : MDBFileInfo) → Contains n.finished f → IsPut (log_of n) f)
  pub grew : Tells b → GrewToEnd b n
  pub repeated : RepeatsGrow b n
  pub dry : Tells b → b.shards.rules.dry_run ≡ true → GrewByXorbs b n
  pub quiet : is_some b.failed ≡ true → log_of n ≡ log_of b
  pub queries : NoQueries b n
  pub failed : KeepsFailed b n
  pub steady : FaultsStay b n
  pub stores : LaterFaults b.shards n.shards
  pub again : b.finalized ≡ true → (answer ≡ Err finalized_error) × (n ≡ b)
  pub said : b.finalized ≡ false → Says n answer
  pub refused : b.finalized ≡ false → (e : ClientError) → b.failed ≡ Some e → answer ≡ Err (of_client_error e)
  pub why : IfErr answer (λ e. ((e ≡ finalized_error) × (b.finalized ≡ true)) ⊎ PutsFail b n e)

-- what `finalize` answers: the counts, with the bytes of all shards of the session's records
pub record Counted (b n : SessionTold) (m : DeduplicationMetrics) : Type 0 where
  pub counts : m ≡ n.metrics
  pub same : m ≡ record b.metrics {
    xorb_bytes_uploaded = m.xorb_bytes_uploaded;
    shard_bytes_uploaded = m.shard_bytes_uploaded;
    total_bytes_uploaded = m.total_bytes_uploaded;
  }
  pub shards : Tells b → m ≡ end_counts m (sizes (shards_of n.shards))

-- the file records of the session
abbrev pub HasFiles : SessionTold → SessionTold → List MDBFileInfo → Type 0
HasFiles b n fs = Tells b → fs ≡ (records_of n.shards.session).files

-- the uploader was asked for records that know a chunk
pub record AsksFor (b n : SessionTold) (chunk : MerkleHash) (answer : Result Bool DataError) : Type 0 where
  pub same : n ≡ record b { uploader = n.uploader; shards = n.shards }
  pub asks : Asks b.uploader n.uploader b.shards n.shards chunk answer
