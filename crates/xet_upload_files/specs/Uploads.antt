-- Files that are uploaded from their sources.
use Rattle.std.specs.Prelude.{ℕ, ◌≡◌, ◌+◌, ◌-◌, ◌^◌, ◌⊎◌, ◌<◌, ◌≤◌, true, List, [], ◌∷◌, ◌++◌, length, map, All, IfSome}
use Rattle.std.specs.Prelude.{option_map, Result, Ok, Err, IfOk, IfErr, OnOk, Option, None, Some}
use Rattle.std.specs.List.{concat, flat_map}
use Rattle.xet_base.specs.declared.merklehash.MerkleHash.{MerkleHash}
use Rattle.xet_base.specs.Digests.{file_hash_of, infos_of}
use Rattle.xet_base.specs.Store.{Store}
use Rattle.xet_outside.specs.Told.{Rose, SourceTold}
use Rattle.xet_pointer.specs.declared.xet_file_info.XetFileInfo.{XetFileInfo}
use Rattle.xet_progress_state.specs.declared.step.TrackerStep.{TrackerStep}
use Rattle.xet_upload.specs.Metrics.{no_counts}
use Rattle.xet_upload.specs.declared.data_error.DataError.{DataError}
use Rattle.xet_upload.specs.declared.data_error.DataError.TheVariants as data_error
use Rattle.xet_upload.specs.declared.metrics.DeduplicationMetrics.{DeduplicationMetrics}
use Rattle.xet_upload.specs.declared.sha256_policy.Sha256Policy.{Sha256Policy}
use Rattle.xet_upload_session.specs.Calls.{Backs, Keeps, Says, finalized_error}
use Rattle.xet_upload_session.specs.Completions.{with_file_counts}
use Rattle.xet_upload_session.specs.Sessions.{HasListed, SessionTold, Tells}
use Rattle.xet_upload_session.specs.Trackings.{ids_used_up}
use Rattle.xet_clean.specs.Cleaners.{Cleaner, CountsChunks, Feeds, IsNewCleaner}
use Rattle.xet_clean_parts.specs.Pointers.{pointer_to, recorded_sha256}
use Rattle.xet_clean.specs.Cleaners.{unknown_xorb}
use Rattle.xet_clean_parts.specs.Cleanings.{ChunkFails, NoFault}
use Rattle.xet_clean_parts.specs.FileCalls.{IsLate}
use Rattle.xet_clean_parts.specs.Made.{IsPickedFrom, PutsMade, PutsNone, PutsToEnd, StayOne}
use Rattle.xet_clean_parts.specs.Places.{CutFile, Telling}
use Rattle.xet_clean_parts.specs.Premises.{HashesAgree, IsOpen, IsSteady, NoClash}
use Rattle.xet_clean.specs.Records.{CleanedFile, HasRecord}
use Rattle.xet_clean_parts.specs.SessionCalls.{Calls}
use Rattle.xet_clean.specs.FileEnds.{EndsFile}

-- a file to upload, of whose cutter is seen what it tells
pub record FileTold : Type 0 where
  pub name : List ℕ
  pub source : SourceTold
  -- how many bytes it has
  pub size : ℕ
  pub policy : Sha256Policy
  pub tell : Telling

-- the sizes of files, which are fixed
abbrev pub fixed_sizes : List FileTold → List (Option ℕ)
fixed_sizes files = map (λ f. Some f.size) files

-- these bytes came off the front of what the source held
pub record TakesOff (s t : SourceTold) (bytes : List ℕ) : Type 0 where
  pub left : s.left ≡ option_map (λ rest. bytes ++ rest) t.left
  pub faults : s.faults ≤ t.faults

-- a file that was uploaded: as it was, its source as it is left, what its cutter tells then, the bytes that were read,
-- the chunks that they were cut into, and the file's hash
pub record Upload : Type 0 where
  pub file : FileTold
  pub source : SourceTold
  pub later : Telling
  pub bytes : List ℕ
  pub chunks : List (List ℕ)
  pub hash : MerkleHash

-- the bytes came off the front of the source, as many as the file has, and were cut where the cutter says so; the hash
-- is that of their chunks
pub record IsUpload (u : Upload) : Type 0 where
  pub taken : TakesOff u.file.source u.source u.bytes
  pub size : length u.bytes ≡ u.file.size
  pub bytes : u.bytes ≡ concat u.chunks
  pub places : CutFile u.file.tell u.bytes u.chunks
  pub hash : u.hash ≡ file_hash_of (infos_of u.chunks)

-- the chunks of files that were uploaded
abbrev pub all_chunks : List Upload → List (List ℕ)
all_chunks done = flat_map (λ u. u.chunks) done

-- the file afterwards
abbrev pub file_after : Upload → FileTold
file_after u = record u.file { source = u.source; tell = u.later }

-- what the session records
abbrev pub recorded_file : Upload → CleanedFile
recorded_file u = record { hash = u.hash; sha256 = recorded_sha256 u.file.policy u.bytes; bytes = u.bytes }

-- the pointer record
abbrev pub upload_pointer : Upload → XetFileInfo
upload_pointer u = pointer_to u.hash u.file.size (recorded_sha256 u.file.policy u.bytes)

-- ---- the calls of the session

-- the calls for a file that was read whole: these bytes were fed to a new cleaner, with searches and given xorbs alone,
-- and then the file ended, or its end failed
pub record EndsUpload (now : ℕ) (b n : SessionTold) (f : FileTold) (bytes : List ℕ)
    (answer : Result (Unit {0}) DataError) : Type 0 where
  pub keeps : Keeps b n
  pub backs : HasListed b → Backs b n
  pub new : Cleaner
  pub is_new : IsNewCleaner new (Some f.size) f.policy f.tell
  pub fed : Cleaner
  pub middle : SessionTold
  pub calls : Calls now b middle
  pub feeds : Feeds b middle new bytes fed
  pub told : List TrackerStep
  pub after : List TrackerStep
  pub ends : EndsFile middle n fed now told after answer

-- these files ended, one after another, and nothing else was called; xorbs were made in turn of the chunks of each
abbrev pub EndsUploads : ℕ → List Upload → SessionTold → SessionTold → Type 0
EndsUploads now [] b n = n ≡ b
EndsUploads now (u ∷ us) b n = (m : SessionTold) × EndsUpload now b m u.file u.bytes (Ok tt)
    × (Tells b → PutsToEnd b m [] u.chunks) × EndsUploads now us m n

-- the calls for a file that failed: searches and given xorbs alone, or it was read whole and its end failed
abbrev pub StopsUpload : ℕ → SessionTold → SessionTold → FileTold → List ℕ → DataError → Type 0
StopsUpload now b n f bytes e = Calls now b n ⊎ EndsUpload now b n f bytes (Err e)

-- ---- why an upload fails

-- a file of so many bytes, of which these were read: its source failed, or ended before it gave them all
abbrev pub SourceFails : SourceTold → SourceTold → ℕ → List ℕ → DataError → Type 0
SourceFails s t size bytes e = ((e ≡ data_error.IOError) × Rose s.faults t.faults)
    ⊎ ((e ≡ data_error.SourceEnded size (length bytes)) × (length bytes < size) × IfSome t.left (λ rest. rest ≡ []))

-- the session or its tracker refused a step; a xorb is unknown only where a failed put is kept
abbrev pub SessionFails : SessionTold → SessionTold → DataError → Type 0
SessionFails b n e = ChunkFails b n e ⊎ ((h : MerkleHash) × (e ≡ unknown_xorb h) × (IsOpen n → ⊥))

-- the invalid operations of one upload that are no refusal of the tracker, where `ids` is the next id
abbrev pub IsFileError : SessionTold → SessionTold → ℕ → DataError → Type 0
IsFileError b n ids e = IsLate b.finalized e ⊎ ((ids ≡ 2 ^ 64 - 1) × (e ≡ ids_used_up))
    ⊎ ((h : MerkleHash) × (e ≡ unknown_xorb h) × (IsOpen n → ⊥))

-- the same of so many files: the ids may be used up by those before
abbrev pub IsUploadError : SessionTold → SessionTold → ℕ → ℕ → DataError → Type 0
IsUploadError b n ids count e = IsLate b.finalized e
    ⊎ ((k : ℕ) × (k < count) × (ids + k ≡ 2 ^ 64 - 1) × (e ≡ ids_used_up))
    ⊎ ((h : MerkleHash) × (e ≡ unknown_xorb h) × (IsOpen n → ⊥))

-- the next file failed, of which some bytes were read, and of these some cut into chunks; those behind it are as they
-- were. What the files before it left of the session is `reached`
pub record FailsAt (now : ℕ) (b reached n : SessionTold) (rest left : List FileTold) (cut : List (List ℕ))
    (e : DataError) : Type 0 where
  pub file : FileTold
  pub source : SourceTold
  pub tell : Telling
  pub later : List FileTold
  pub rest_are : rest ≡ file ∷ later
  pub left_are : left ≡ record file { source = source; tell = tell } ∷ later
  pub bytes : List ℕ
  pub taken : TakesOff file.source source bytes
  pub most : length bytes ≤ file.size
  pub uncut : List ℕ
  pub bytes_are : bytes ≡ concat cut ++ uncut
  pub calls : StopsUpload now reached n file bytes e
  pub why : SourceFails file.source source file.size bytes e ⊎ SessionFails b n e

-- nothing was done: the session is finalized, or there was no memory for the answers
abbrev pub FailsFirst : SessionTold → DataError → Type 0
FailsFirst b e = ((e ≡ finalized_error) × (b.finalized ≡ true)) ⊎ (e ≡ data_error.OutOfMemory)

-- ---- several files

-- the session's counts with those of the chunks of these files; the bytes of xorbs may have grown too
abbrev pub CountsFiles : DeduplicationMetrics → List Upload → DeduplicationMetrics → Type 0
CountsFiles m [] n = n ≡ record m { xorb_bytes_uploaded = n.xorb_bytes_uploaded }
CountsFiles m (u ∷ us) n = (counts : DeduplicationMetrics) × CountsChunks no_counts u.chunks counts
    × CountsFiles (with_file_counts m counts) us n

-- files were uploaded, and maybe one more in part: what other records stand for is kept, and the session has a record
-- of each that stands for the bytes that were read of its source; what was put is made of what waited and of the chunks
-- that were cut, and nothing was put where these stay one; what waits is picked from them
pub record HasUploads (b n : SessionTold) (cut : List (List ℕ)) (done : List Upload) : Type 0 where
  pub keeps : Keeps b n
  pub backs : Backs b n
  pub puts : Tells b → PutsMade b n (b.waiting.chunks ++ cut) n.waiting.chunks
  pub full : StayOne b cut → PutsNone b n
  pub thresholds : n.thresholds ≡ b.thresholds
  pub waits : IsPickedFrom n.waiting.chunks (b.waiting.chunks ++ cut)
  pub are : All IsUpload done
  pub holds : (k : Store) (f : CleanedFile) → IsSteady k b → IsOpen n → HashesAgree k n → HasRecord k b f
      → HasRecord k n f
  pub stand : (k : Store) → IsSteady k b → IsOpen n → NoClash k n cut
      → All (λ u. HasRecord k n (recorded_file u)) done

-- some files were uploaded, and then the next failed, of which some chunks were cut, or there was nothing done at all
pub record StopsBehind (now : ℕ) (b reached n : SessionTold) (done : List Upload) (cut : List (List ℕ))
    (before after : List FileTold) (e : DataError) : Type 0 where
  pub rest : List FileTold
  pub left : List FileTold
  pub before_are : before ≡ map (λ u. u.file) done ++ rest
  pub after_are : after ≡ map file_after done ++ left
  pub why : FailsAt now b reached n rest left cut e ⊎ (FailsFirst b e × (n ≡ b) × (after ≡ before))

-- all files were uploaded, in order, and the answers are their pointer records; or some were, up to one that failed,
-- of which some chunks were cut. Nothing was called of the session but what these files need, and the counts are those
-- of the uploaded files
pub record UploadsFiles (now : ℕ) (b n : SessionTold) (before after : List FileTold)
    (answer : Result (List XetFileInfo) DataError) : Type 0 where
  pub done : List Upload
  pub last : List (List ℕ)
  pub has : HasUploads b n (all_chunks done ++ last) done
  pub reached : SessionTold
  pub ended : EndsUploads now done b reached
  pub no_more : OnOk answer (n ≡ reached)
  pub none : OnOk answer (last ≡ [])
  pub unfailed : OnOk answer (NoFault b n)
  pub said : b.failed ≡ None → Says n answer
  pub counts : CountsFiles b.metrics done n.metrics
  pub answers : IfOk answer (λ infos. infos ≡ map upload_pointer done)
  pub all : OnOk answer (before ≡ map (λ u. u.file) done)
  pub after_are : OnOk answer (after ≡ map file_after done)
  pub finalized : b.finalized ≡ true → (answer ≡ Err finalized_error) × (n ≡ b) × (after ≡ before)
  pub why : IfErr answer (StopsBehind now b reached n done last before after)
