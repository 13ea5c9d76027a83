-- What follows of the calls of a download session.
use Rattle.std.specs.Prelude.{ℕ, ◌≡◌, ◌⊎◌, true, length, List, Option, None, Some, Ok, Err, Result, IfOk}
use Rattle.std.specs.declared.ops.Bound.{Bound}
use Rattle.xet_base.specs.declared.cas_types.FileRange.{FileRange}
use Rattle.xet_base.specs.declared.item_id.UniqueID.{UniqueID}
use Rattle.xet_base.specs.declared.merklehash.MerkleHash.{MerkleHash}
use Rattle.xet_base.specs.HashText.{hash_of_text}
use Rattle.xet_base.specs.Store.{Store, window}
use Rattle.xet_outside.specs.Told.{CacheTold, ClientTold, SinkTold}
use Rattle.xet_pointer.specs.declared.xet_file_info.XetFileInfo.{XetFileInfo}
use Rattle.xet_error.specs.declared.error.FileReconstructionError.TheVariants as error
use Rattle.xet_events.specs.Limits.{LimitTold}
use Rattle.xet_ties.specs.LegalWords.{IsExact}
use Rattle.xet_ties.specs.Setup.{CacheTells, IsOver, Setup}
use Rattle.xet_reconstruct.specs.ToFile.{StandAt}
use Rattle.xet_upload.specs.declared.data_error.DataError.{DataError}
use Rattle.xet_upload.specs.declared.data_error.DataError.TheVariants as data_error
use Rattle.xet_download.specs.Bounds.{range_of}
use Rattle.xet_download.specs.Calls.{DownloadFileCall, DownloadToWriterCall, FileRun, JobTold, job_setup}
use Rattle.xet_download.specs.Downloads.{DownloadsTold, finalized_error, ids_used_up, lent_by, refusal_of, run_for}
use Rattle.xet_download.specs.Downloads.{whole}

-- ---- exact downloads

-- over connections and a cache that tell one valid store an Ok is exact: the writer took the window of the range, and
-- the answer is its length
abbrev pub WriterCallsAreExact : Type 0
WriterCallsAreExact = (b n : DownloadsTold) (before after : SinkTold) (info : XetFileInfo)
    (range : Option FileRange) (answer : Result (UniqueID × ℕ) DataError) (file : MerkleHash) (s : Store)
    → DownloadToWriterCall b n before after info (Ok range) answer → hash_of_text info.hash ≡ Some file
    → IsOver s b.clients → CacheTells s b.cache
    → IfOk answer (λ r. IsExact s (run_for b file range) before after r.1)

-- the file has these bytes from its start on and nothing else, where it tells its content, and so many were counted
pub record Fills (bytes : List ℕ) (before after : SinkTold) (count : ℕ) : Type 0 where
  pub stand : StandAt true 0 before after bytes
  pub total : count ≡ length bytes

-- the same into a file: it has the bytes of the file, and the answer counts them
abbrev pub FileCallsAreExact : Type 0
FileCallsAreExact = (b n : DownloadsTold) (before after : SinkTold) (info : XetFileInfo)
    (answer : Result (UniqueID × ℕ) DataError) (file : MerkleHash) (s : Store)
    → DownloadFileCall b n before after info answer → hash_of_text info.hash ≡ Some file
    → IsOver s b.clients → CacheTells s b.cache
    → IfOk answer (λ r. Fills (window s file whole) before after r.1)

-- and by a job of a whole file, over connections and a cache of the caller's
abbrev pub JobRunsAreExact : Type 0
JobRunsAreExact = (j : JobTold) (cs ds : List ClientTold) (k l : CacheTold) (before after : SinkTold)
    (answer : Result ℕ DataError) (s : Store) → j.range ≡ None
    → FileRun j.limits (job_setup j) j.expected (lent_by cs k before) (lent_by ds l after) answer → IsOver s cs
    → CacheTells s k → IfOk answer (Fills (window s j.file whole) before after)

-- ---- answers that never come

-- each refusal is one of four
abbrev pub RefusalsAreFour : Type 0
RefusalsAreFour = (t : DownloadsTold) (range : Result (Option FileRange) DataError) (info : XetFileInfo)
    (e : DataError) → refusal_of t range info ≡ Some e
    → (e ≡ finalized_error) ⊎ (range ≡ Err e) ⊎ (e ≡ data_error.HashStringParsingFailure) ⊎ (e ≡ ids_used_up)

-- the error of a run that was cancelled
abbrev pub cancelled : DataError
cancelled = data_error.FileReconstructionError error.Cancelled

-- no download to a writer, into a file or by a job answers that it was cancelled, since no signal is asked
abbrev pub WriterIsUncancelled : Type 0
WriterIsUncancelled = (b n : DownloadsTold) (before after : SinkTold) (info : XetFileInfo)
    (bounds : Bound ℕ × Bound ℕ) (answer : Result (UniqueID × ℕ) DataError)
    → DownloadToWriterCall b n before after info (range_of bounds) answer → answer ≡ Err cancelled → ⊥

abbrev pub FileIsUncancelled : Type 0
FileIsUncancelled = (b n : DownloadsTold) (before after : SinkTold) (info : XetFileInfo)
    (answer : Result (UniqueID × ℕ) DataError) → DownloadFileCall b n before after info answer
    → answer ≡ Err cancelled → ⊥

abbrev pub JobIsUncancelled : Type 0
JobIsUncancelled = (limits : LimitTold) (g : Setup) (expected : Option ℕ) (cs ds : List ClientTold)
    (k l : CacheTold) (before after : SinkTold) (answer : Result ℕ DataError)
    → FileRun limits g expected (lent_by cs k before) (lent_by ds l after) answer → answer ≡ Err cancelled → ⊥
