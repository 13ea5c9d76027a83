-- Which calls of a session keep that each of its records stands for its file's bytes.
use Rattle.std.specs.Prelude.{ℕ, ◌≡◌, ◌<◌, ◌^◌, ◌⊎◌, Bool, List, [], ◌∷◌, ◌++◌, length, map, All, Option}
use Rattle.std.specs.Prelude.{Result, Ok, Err}
use Rattle.std.proofs.Common.{inl, inr}
use Rattle.xet_base.specs.declared.merklehash.MerkleHash.{MerkleHash}
use Rattle.xet_base.specs.declared.mdb_shard.FileDataSequenceEntry.{FileDataSequenceEntry}
use Rattle.xet_base.specs.declared.mdb_shard.MDBFileInfo.{MDBFileInfo}
use Rattle.xet_base.specs.declared.mdb_shard.Xorb.{Xorb}
use Rattle.xet_base.specs.Store.{IsValidXorb, Store}
use Rattle.xet_pointer.specs.declared.xet_file_info.XetFileInfo.{XetFileInfo}
use Rattle.xet_progress_state.specs.declared.step.TrackerStep.{TrackerStep}
use Rattle.xet_progress_state.specs.declared.item.GroupProgressReport.{GroupProgressReport}
use Rattle.xet_uploader.specs.StoresAfter.{files_in}
use Rattle.xet_uploader.specs.Uploads.{UploaderTold}
use Rattle.xet_shard_interface.specs.Interfaces.{InterfaceTold, records_of}
use Rattle.xet_shard_interface.specs.Puts.{puts_of}
use Rattle.xet_upload.specs.Standing.{world}
use Rattle.xet_upload.specs.Waitings.{Waiting}
use Rattle.xet_upload.specs.declared.data_error.DataError.{DataError}
use Rattle.xet_upload.specs.declared.metrics.DeduplicationMetrics.{DeduplicationMetrics}
use Rattle.xet_upload_parts.specs.declared.cut_thresholds.CutThresholds.{CutThresholds}
use Rattle.xet_upload_session.specs.Calls.{AsksFor, Cut, Finalizes, Queries, Registers, new_session}
use Rattle.xet_upload_session.specs.Completions.{TakesFile}
use Rattle.xet_upload_session.specs.Sessions.{SessionTold, log_of}
use Rattle.xet_clean_parts.specs.Learnings.{Learns}
use Rattle.xet_clean_parts.specs.Premises.{IsSteady}
use Rattle.xet_clean.specs.Cleaners.{AddsData, Cleaner, CleanerStands, Finishes}
use Rattle.xet_clean.specs.FileEnds.{EndsFile}
use Rattle.xet_upload_files.specs.Uploads.{FailsAt, FileTold, UploadsFiles}
use Rattle.xet_upload_laws.specs.AllStand.{AllStand}
use Rattle.xet_upload_laws.specs.Clashes.{HasNoClash}
use Rattle.xet_upload_laws.specs.RecordsStand.{AreRecords, AreWaiting}
use Rattle.xet_upload_laws.specs.StoreAfter.{HasStore}

-- ---- a new session

-- all records stand in a new session, where those of the log and of the session's store do and the store is there
abbrev pub NewStands : Type 0
NewStands = (k : Store) (u : UploaderTold) (i : InterfaceTold) (queries : Bool) (t : CutThresholds)
    → HasStore k (puts_of u) → AreRecords (world k (puts_of u)) (files_in (puts_of u))
    → AreRecords (world k (puts_of u)) (records_of i.session).files → AllStand k (new_session u i queries t)

-- ---- the session's own calls

-- so they do after a given xorb, which a store takes
abbrev pub RegisterStands : Type 0
RegisterStands = (k : Store) (b n : SessionTold) (x : Xorb) (now : ℕ) (answer : Result Bool DataError)
    → Registers b n x now answer → IsSteady k b → IsValidXorb x → AllStand k b → AllStand k n

-- after a search of the stores
abbrev pub SearchStands : Type 0
SearchStands = (k : Store) (b n : SessionTold) (hashes : List MerkleHash)
    (answer : Result (Option (ℕ × FileDataSequenceEntry × Bool)) DataError) → Queries b n hashes answer → IsSteady k b
    → AllStand k b → AllStand k n

-- after counts that are added, and queries of the uploader
abbrev pub CountsStand : Type 0
CountsStand = (k : Store) (b n : SessionTold) (counts : DeduplicationMetrics) → n ≡ record b { metrics = counts }
    → AllStand k b → AllStand k n

abbrev pub LearningStands : Type 0
LearningStands = (k : Store) (b n : SessionTold) (hashes : List MerkleHash) (answer : Result Bool DataError)
    → Learns b n hashes answer → AllStand k b → AllStand k n

-- and after one query of the uploader
abbrev pub AskStands : Type 0
AskStands = (k : Store) (b n : SessionTold) (chunk : MerkleHash) (answer : Result Bool DataError)
    → AsksFor b n chunk answer → AllStand k b → AllStand k n

-- after a cut
abbrev pub CutStands : Type 0
CutStands = (k : Store) (b n : SessionTold) (now : ℕ) (answer : Result (Unit {0}) DataError) → Cut b n now answer
    → IsSteady k b → HasNoClash k n [] [] → AllStand k b → AllStand k n

-- and after data of files that is taken, each of which stands for its bytes
abbrev pub FileStands : Type 0
FileStands = (k : Store) (b n : SessionTold) (w : Waiting) (now : ℕ) (answer : Result (Unit {0}) DataError)
    → TakesFile b n w now answer → IsSteady k b → HasNoClash k n [] [] → AreWaiting (world k (log_of b)) w
    → AllStand k b → AllStand k n

-- ---- cleaners

-- after bytes that are fed
abbrev pub FeedStands : Type 0
FeedStands = (k : Store) (b n : SessionTold) (c d : Cleaner) (bytes : List ℕ) (answer : Result (Unit {0}) DataError)
    → AddsData b n c bytes d answer → IsSteady k b → AllStand k b → AllStand k n

-- after the end of a file, for which a cleaner stood
abbrev pub FinishStands : Type 0
FinishStands = (k : Store) (b n : SessionTold) (c : Cleaner) (now : ℕ) (before after : List TrackerStep)
    (answer : Result (XetFileInfo × DeduplicationMetrics) DataError) (bytes : List ℕ) → Finishes b n c answer
    → EndsFile b n c now before after answer → IsSteady k b → HasNoClash k n [] (c.pending ∷ [])
    → CleanerStands (world k (log_of b)) c bytes → length bytes < 2 ^ 64 → AllStand k b → AllStand k n

-- ---- uploads

-- the bytes that were read of the file that failed, where there is one
abbrev pub failed_bytes : {now : ℕ} {b reached n : SessionTold} {rest left : List FileTold} {cut : List (List ℕ)}
    {e : DataError} {A : Type 0} → FailsAt now b reached n rest left cut e ⊎ A → List ℕ
failed_bytes (inl f) = f.bytes
failed_bytes (inr a) = []

-- the bytes that were read of each file
abbrev pub read_bytes : {now : ℕ} {b n : SessionTold} {before after : List FileTold}
    (answer : Result (List XetFileInfo) DataError) → UploadsFiles now b n before after answer → List (List ℕ)
read_bytes (Ok infos) c = map (λ u. u.bytes) c.done
read_bytes (Err e) c = map (λ u. u.bytes) c.done ++ failed_bytes c.why.why ∷ []

-- after files that are uploaded, or some of them
abbrev pub UploadStands : Type 0
UploadStands = (k : Store) (b n : SessionTold) (now : ℕ) (before after : List FileTold)
    (answer : Result (List XetFileInfo) DataError) (c : UploadsFiles now b n before after answer) → IsSteady k b
    → HasNoClash k n [] (read_bytes answer c) → All (λ bytes. length bytes < 2 ^ 64) (read_bytes answer c)
    → AllStand k b → AllStand k n

-- ---- the end

-- after an end, whatever it answers, the store after the log is there and the log's records stand
abbrev pub EndStands : Type 0 → Type 0
EndStands A = (k : Store) (b n : SessionTold) (now : ℕ) (answer : Result A DataError) → Finalizes b n now answer
    → IsSteady k b → HasNoClash k n [] [] → AllStand k b → AllStand k n

-- the same of the three calls that end a session
abbrev pub FinalizeStands : Type 0
FinalizeStands = EndStands DeduplicationMetrics

abbrev pub FinalizeWithFilesStands : Type 0
FinalizeWithFilesStands = EndStands (DeduplicationMetrics × List MDBFileInfo)

abbrev pub FinalizeWithReportStands : Type 0
FinalizeWithReportStands = EndStands (DeduplicationMetrics × GroupProgressReport)
