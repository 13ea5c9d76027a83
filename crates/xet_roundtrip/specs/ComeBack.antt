-- Files that were uploaded come back.
use Rattle.std.specs.Prelude.{ℕ, ◌≡◌, false, length, List, [], Option, None, Some, slice_range, Result, Ok}
use Rattle.std.specs.Prelude.{IfOk}
use Rattle.xet_base.specs.declared.cas_types.FileRange.{FileRange}
use Rattle.xet_base.specs.declared.item_id.UniqueID.{UniqueID}
use Rattle.xet_base.specs.declared.mdb_shard.MDBFileInfo.{MDBFileInfo}
use Rattle.xet_base.specs.declared.merklehash.MerkleHash.{MerkleHash}
use Rattle.xet_base.specs.HashText.{hash_of_text}
use Rattle.xet_base.specs.Store.{IsValid, Store, file_of, window}
use Rattle.xet_outside.specs.Told.{CacheTold, ClientTold, SinkTold, Took}
use Rattle.xet_progress_state.specs.declared.item.GroupProgressReport.{GroupProgressReport}
use Rattle.xet_ties.specs.Setup.{CacheTells, IsOver}
use Rattle.xet_pointer.specs.declared.xet_file_info.XetFileInfo.{XetFileInfo}
use Rattle.xet_uploader.specs.declared.uploader.Put.{Put}
use Rattle.xet_uploader.specs.StoresAfter.{file_of_record, store_after}
use Rattle.xet_upload.specs.declared.data_error.DataError.{DataError}
use Rattle.xet_upload.specs.declared.metrics.DeduplicationMetrics.{DeduplicationMetrics}
use Rattle.xet_upload.specs.Standing.{world}
use Rattle.xet_upload_session.specs.Calls.{Finalizes}
use Rattle.xet_upload_session.specs.Sessions.{SessionTold, log_of}
use Rattle.xet_clean_parts.specs.Premises.{IsSteady}
use Rattle.xet_clean.specs.Laws.{HasXorbs}
use Rattle.xet_clean.specs.Records.{CleanedFile, HasRecord, IsAccepted}
use Rattle.xet_upload_laws.specs.AllStand.{AllStand}
use Rattle.xet_upload_laws.specs.Clashes.{HasNoClash, known_files}
use Rattle.xet_download.specs.Calls.{DownloadFileCall, DownloadToWriterCall, FileRun, IsJobFor, JobTold, job_setup}
use Rattle.xet_download.specs.Downloads.{DownloadsTold, lent_by, range_or_whole}
use Rattle.xet_download.specs.Laws.{Fills}

-- the bytes of a file in a range, or all
abbrev pub part_of : List ℕ → Option FileRange → List ℕ
part_of bytes range = slice_range bytes (range_or_whole range).start (range_or_whole range).end

-- the writer took these bytes, and the answer counts them
pub record Wrote (bytes : List ℕ) (before after : SinkTold) (count : ℕ) : Type 0 where
  pub took : Took before.took after.took bytes
  pub total : count ≡ length bytes

-- a download by a pointer record with this hash, over connections and a cache that tell this store, writes these bytes
-- in its range where it answers Ok
abbrev pub WriterReturns : Store → MerkleHash → List ℕ → Type 0
WriterReturns s hash bytes = (b n : DownloadsTold) (before after : SinkTold) (info : XetFileInfo)
    (range : Option FileRange) (answer : Result (UniqueID × ℕ) DataError)
    → DownloadToWriterCall b n before after info (Ok range) answer → hash_of_text info.hash ≡ Some hash
    → IsOver s b.clients → CacheTells s b.cache → IfOk answer (λ r. Wrote (part_of bytes range) before after r.1)

-- so a download into a file leaves these bytes in it, and nothing else
abbrev pub FileReturns : Store → MerkleHash → List ℕ → Type 0
FileReturns s hash bytes = (b n : DownloadsTold) (before after : SinkTold) (info : XetFileInfo)
    (answer : Result (UniqueID × ℕ) DataError) → DownloadFileCall b n before after info answer
    → hash_of_text info.hash ≡ Some hash → IsOver s b.clients → CacheTells s b.cache
    → IfOk answer (λ r. Fills (part_of bytes None) before after r.1)

-- and so does a job that a session began by such a record, over connections and a cache of the caller's
abbrev pub JobReturns : Store → MerkleHash → List ℕ → Type 0
JobReturns s hash bytes = (t : DownloadsTold) (info : XetFileInfo) (j : JobTold) (cs ds : List ClientTold)
    (k l : CacheTold) (before after : SinkTold) (answer : Result ℕ DataError) → IsJobFor t info None j
    → FileRun j.limits (job_setup j) j.expected (lent_by cs k before) (lent_by ds l after) answer
    → hash_of_text info.hash ≡ Some hash → IsOver s cs → CacheTells s k
    → IfOk answer (Fills (part_of bytes None) before after)

-- the file of this hash comes back with these bytes by each of the three calls
pub record Returns (s : Store) (hash : MerkleHash) (bytes : List ℕ) : Type 0 where
  pub writer : WriterReturns s hash bytes
  pub file : FileReturns s hash bytes
  pub job : JobReturns s hash bytes

-- it does over a store that gives these bytes
abbrev pub ComesBack : Type 0
ComesBack = (s : Store) (hash : MerkleHash) (bytes : List ℕ)
    → ((range : FileRange) → window s hash range ≡ slice_range bytes range.start range.end) → Returns s hash bytes

-- over a store that has the xorbs of an upload session's world and the accepted record of a file
abbrev pub AcceptedComesBack : Type 0
AcceptedComesBack = (k s : Store) (log : List Put) (f : CleanedFile) → HasXorbs s (world k log)
    → (accepted : IsAccepted k log f) → file_of s f.hash ≡ Some (file_of_record accepted.recorded.info)
    → Returns s f.hash f.bytes

-- and over the store after the log of a session that ended with Ok, and was no dry run, of each file that was finished
abbrev pub AfterEnd : Type 0 → Type 0
AfterEnd A = (k s : Store) (b n : SessionTold) (now : ℕ) (ended : A) (f : CleanedFile) → Finalizes b n now (Ok ended)
    → b.shards.rules.dry_run ≡ false → IsSteady k b → AllStand k b → IsValid k
    → HasNoClash k n (known_files k (log_of n)) [] → HasRecord k b f → store_after k (log_of n) ≡ Some s
    → Returns s f.hash f.bytes

-- by any of the three calls
pub record UploadedComesBack : Type 0 where
  pub finalize : AfterEnd DeduplicationMetrics
  pub files : AfterEnd (DeduplicationMetrics × List MDBFileInfo)
  pub report : AfterEnd (DeduplicationMetrics × GroupProgressReport)
