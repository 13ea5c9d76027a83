-- A job and a session as contracts of jobs see them.
use Rattle.std.specs.Prelude.{◌≡◌, IsSome, None, option_map, take}
use Rattle.xet_outside.specs.declared.source.Source as source
use Rattle.xet_uploader.specs.declared.uploader.Uploader as uploader
use Rattle.xet_shards.specs.declared.shard_store.ShardStore as shard_store
use Rattle.xet_upload.specs.declared.cutter.Cutter as cutter
use Rattle.xet_upload_session.specs.Telling.{told_by}
use Rattle.xet_upload_session.specs.declared.session.FileUploadSession.{FileUploadSession}
use Rattle.xet_clean.specs.Showing.{cleaner_of}
use Rattle.xet_jobs.specs.Jobs.{JobTold, Seen}
use Rattle.xet_jobs.specs.declared.job.UploadJob.{UploadJob}

-- by what its source and its cutter tell
abbrev pub job_of : {I T : Type 0} {G : source.Ghosts I} {H : cutter.Ghosts T} → UploadJob I T G H → JobTold
job_of {G = G} {H = H} j = record {
  source = G.told j.source;
  cleaner = option_map (cleaner_of H.told) j.cleaner;
  ready = option_map (λ count. take count j.buffer.items) j.ready;
}

-- the job has not ended, and no piece waits for a step
abbrev pub Waits : {I T : Type 0} {G : source.Ghosts I} {H : cutter.Ghosts T} → UploadJob I T G H → Type 0
Waits j = IsSome j.cleaner × (j.ready ≡ None)

-- the job has not ended, and a piece waits for a step
abbrev pub HasPiece : {I T : Type 0} {G : source.Ghosts I} {H : cutter.Ghosts T} → UploadJob I T G H → Type 0
HasPiece j = IsSome j.cleaner × IsSome j.ready

-- by what its uploader and its stores tell
abbrev pub seen_of : {U R : Type 0} {G : uploader.Ghosts U} {H : shard_store.Ghosts R}
    → FileUploadSession U R G H → Seen
seen_of s = record { session = told_by s; calls = s.files.tracker }
