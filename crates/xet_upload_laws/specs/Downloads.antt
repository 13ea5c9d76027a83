-- What the store after a session's log gives of each accepted file.
use Rattle.std.specs.Prelude.{ℕ, ◌≡◌, List, [], IsSome, Ok, slice_range, false}
use Rattle.xet_base.specs.declared.cas_types.FileRange.{FileRange}
use Rattle.xet_base.specs.declared.mdb_shard.MDBFileInfo.{MDBFileInfo}
use Rattle.xet_base.specs.Store.{IsValid, Store, file_of, window}
use Rattle.xet_progress_state.specs.declared.item.GroupProgressReport.{GroupProgressReport}
use Rattle.xet_uploader.specs.declared.uploader.Put.{Put}
use Rattle.xet_upload.specs.declared.metrics.DeduplicationMetrics.{DeduplicationMetrics}
use Rattle.xet_upload_session.specs.Calls.{Finalizes}
use Rattle.xet_upload_session.specs.Sessions.{SessionTold, log_of}
use Rattle.xet_clean_parts.specs.Premises.{IsSteady}
use Rattle.xet_clean.specs.Records.{CleanedFile, HasRecord}
use Rattle.xet_upload_laws.specs.AllStand.{AllStand}
use Rattle.xet_upload_laws.specs.Clashes.{HasNoClash, known_files}
use Rattle.xet_upload_laws.specs.StoreAfter.{HasStore}

-- the store after the log is there and valid, has the file, and gives this range of it
pub record Downloads (k : Store) (log : List Put) (f : CleanedFile) (range : FileRange) : Type 0 where
  pub has : HasStore k log
  pub stored : IsSome (file_of has.store f.hash)
  pub window : window has.store f.hash range ≡ slice_range f.bytes range.start range.end

-- after an end that answered Ok, and was no dry run, each file of which the session has a record downloads
abbrev pub AcceptedDownload : Type 0 → Type 0
AcceptedDownload A = (k : Store) (b n : SessionTold) (now : ℕ) (ended : A) (f : CleanedFile) (range : FileRange)
    → Finalizes b n now (Ok ended) → b.shards.rules.dry_run ≡ false → IsSteady k b → AllStand k b → IsValid k
    → HasNoClash k n (known_files k (log_of n)) [] → HasRecord k b f → Downloads k (log_of n) f range

-- the same of the three calls that end a session
abbrev pub DownloadsAfterFinalize : Type 0
DownloadsAfterFinalize = AcceptedDownload DeduplicationMetrics

abbrev pub DownloadsAfterFiles : Type 0
DownloadsAfterFiles = AcceptedDownload (DeduplicationMetrics × List MDBFileInfo)

abbrev pub DownloadsAfterReport : Type 0
DownloadsAfterReport = AcceptedDownload (DeduplicationMetrics × GroupProgressReport)
