-- Laws of what sessions and cleaners stand for.
use Rattle.std.specs.Prelude.{ℕ, ◌≡◌, Bool, false, List, All, take, IsSome, Option, Some}
use Rattle.std.specs.Prelude.{Result, Ok, slice_range}
use Rattle.std.specs.List.{flat_map}
use Rattle.xet_base.specs.declared.cas_types.FileRange.{FileRange}
use Rattle.xet_base.specs.declared.mdb_shard.FileDataSequenceEntry.{FileDataSequenceEntry}
use Rattle.xet_base.specs.declared.mdb_shard.MDBFileInfo.{MDBFileInfo}
use Rattle.xet_base.specs.declared.mdb_shard.MDBXorbInfo.{MDBXorbInfo}
use Rattle.xet_base.specs.declared.mdb_shard.Xorb.{Xorb}
use Rattle.xet_base.specs.declared.merklehash.MerkleHash.{MerkleHash}
use Rattle.xet_base.specs.Store.{Store, file_of, window, xorb_of}
use Rattle.xet_uploader.specs.declared.uploader.Put.{Put}
use Rattle.xet_uploader.specs.StoresAfter.{file_of_record}
use Rattle.xet_progress_state.specs.declared.item.GroupProgressReport.{GroupProgressReport}
use Rattle.xet_upload.specs.Standing.{IsRecordIn, world}
use Rattle.xet_upload.specs.Waitings.{Waiting}
use Rattle.xet_upload.specs.declared.metrics.DeduplicationMetrics.{DeduplicationMetrics}
use Rattle.xet_upload_session.specs.Calls.{Backs, Cut, Finalizes, Keeps, Queries, Registers}
use Rattle.xet_upload_session.specs.Completions.{TakesFile}
use Rattle.xet_clean_parts.specs.Learnings.{Learns, found_among}
use Rattle.xet_upload_session.specs.Sessions.{SessionTold, log_of}
use Rattle.xet_upload_session.specs.Sounds.{XorbsAgree}
use Rattle.xet_upload.specs.declared.data_error.DataError.{DataError}
use Rattle.xet_clean.specs.Cleaners.{Cleaner, CleanerStands}
use Rattle.xet_clean_parts.specs.Cleanings.{Leaves}
use Rattle.xet_clean_parts.specs.Premises.{HashesAgree, IsOpen, IsSteady}
use Rattle.xet_clean.specs.Records.{CleanedFile, HasRecord, IsAccepted}

-- ---- other calls

-- a call that leaves what waits and what is finished keeps what records stand for
abbrev pub LeavesRecords : Type 0
LeavesRecords = (k : Store) (b n : SessionTold) (f : CleanedFile) → Leaves b n → IsSteady k b → IsOpen n
    → HasRecord k b f → HasRecord k n f

-- so do a given xorb and a search of the stores
abbrev pub RegisterKeepsRecords : Type 0
RegisterKeepsRecords = (k : Store) (b n : SessionTold) (x : Xorb) (now : ℕ) (answer : Result Bool DataError)
    (f : CleanedFile) → Registers b n x now answer → IsSteady k b → IsOpen n → HasRecord k b f → HasRecord k n f

abbrev pub SearchKeepsRecords : Type 0
SearchKeepsRecords = (k : Store) (b n : SessionTold) (hashes : List MerkleHash)
    (answer : Result (Option (ℕ × FileDataSequenceEntry × Bool)) DataError) (f : CleanedFile)
    → Queries b n hashes answer → IsSteady k b → IsOpen n → HasRecord k b f → HasRecord k n f

-- so do counts that are added, and queries of the uploader, whatever is asked of the session
abbrev pub CountsKeepRecords : Type 0
CountsKeepRecords = (k : Store) (b n : SessionTold) (counts : DeduplicationMetrics) (f : CleanedFile)
    → n ≡ record b { metrics = counts } → HasRecord k b f → HasRecord k n f

abbrev pub LearningKeepsRecords : Type 0
LearningKeepsRecords = (k : Store) (b n : SessionTold) (hashes : List MerkleHash) (answer : Result Bool DataError)
    (f : CleanedFile) → Learns b n hashes answer → HasRecord k b f → HasRecord k n f

-- so does the data of another file that is taken, at each exit
abbrev pub FileKeepsRecords : Type 0
FileKeepsRecords = (k : Store) (b n : SessionTold) (w : Waiting) (now : ℕ) (answer : Result (Unit {0}) DataError)
    (f : CleanedFile) → TakesFile b n w now answer → IsSteady k b → IsOpen n → HashesAgree k n → HasRecord k b f
    → HasRecord k n f

-- so does a cut, at each exit
abbrev pub CutKeepsRecords : Type 0
CutKeepsRecords = (k : Store) (b n : SessionTold) (now : ℕ) (answer : Result (Unit {0}) DataError) (f : CleanedFile)
    → Cut b n now answer → IsSteady k b → IsOpen n → HashesAgree k n → HasRecord k b f → HasRecord k n f

-- and each call of the session keeps what a cleaner stands for
abbrev pub KeepsCleaners : Type 0
KeepsCleaners = (k : Store) (b n : SessionTold) (c : Cleaner) (bytes : List ℕ) → Keeps b n → IsSteady k b
    → CleanerStands (world k (log_of b)) c bytes → CleanerStands (world k (log_of n)) c bytes

-- and so do queries of the uploader
abbrev pub LearningKeepsCleaners : Type 0
LearningKeepsCleaners = (k : Store) (b n : SessionTold) (hashes : List MerkleHash) (answer : Result Bool DataError)
    (c : Cleaner) (bytes : List ℕ) → Learns b n hashes answer
    → CleanerStands (world k (log_of b)) c bytes → CleanerStands (world k (log_of n)) c bytes

-- ---- sessions that stay steady

-- what is asked of a session stays, where xorbs agree
abbrev pub CallsKeepSteady : Type 0
CallsKeepSteady = (k : Store) (b n : SessionTold) → Keeps b n → Backs b n → XorbsAgree (world k (log_of n))
    → IsSteady k b → IsSteady k n

-- the records of xorbs that queries of the uploader brought into the cache
abbrev pub learned_records : {b n : SessionTold} {hashes : List MerkleHash} {answer : Result Bool DataError}
    → Learns b n hashes answer → List MDBXorbInfo
learned_records l = flat_map (λ s. s.xorbs) (take l.kept (found_among l.answers))

-- it stays after queries of the uploader, where the records that came describe xorbs that are there
abbrev pub LearningKeepsSteady : Type 0
LearningKeepsSteady = (k : Store) (b n : SessionTold) (hashes : List MerkleHash) (answer : Result Bool DataError)
    (l : Learns b n hashes answer) → Backs b n → All (IsRecordIn (world k (log_of b))) (learned_records l)
    → IsSteady k b → IsSteady k n

-- ---- the end of a session

-- after an end that answered Ok, and was no dry run, each record is in an accepted shard
abbrev pub EndAccepts : Type 0 → Type 0
EndAccepts A = (k : Store) (b n : SessionTold) (now : ℕ) (ended : A) (f : CleanedFile)
    → Finalizes b n now (Ok ended) → IsSteady k b → b.shards.rules.dry_run ≡ false → HashesAgree k n
    → HasRecord k b f → IsAccepted k (log_of n) f

-- the same of the three calls that end one
abbrev pub FinalizeAccepts : Type 0
FinalizeAccepts = EndAccepts DeduplicationMetrics

abbrev pub FinalizeWithFilesAccepts : Type 0
FinalizeWithFilesAccepts = EndAccepts (DeduplicationMetrics × List MDBFileInfo)

abbrev pub FinalizeWithReportAccepts : Type 0
FinalizeWithReportAccepts = EndAccepts (DeduplicationMetrics × GroupProgressReport)

-- ---- downloads

-- each xorb of the world is found alike in the store
abbrev pub HasXorbs : Store → Store → Type 0
HasXorbs s world = (h : MerkleHash) → IsSome (xorb_of world h) → xorb_of s h ≡ xorb_of world h

-- a store that has the xorbs of the world and an accepted record gives the file's bytes in each range
abbrev pub AcceptedReads : Type 0
AcceptedReads = (k s : Store) (log : List Put) (f : CleanedFile) (range : FileRange) → HasXorbs s (world k log)
    → (accepted : IsAccepted k log f) → file_of s f.hash ≡ Some (file_of_record accepted.recorded.info)
    → window s f.hash range ≡ slice_range f.bytes range.start range.end
