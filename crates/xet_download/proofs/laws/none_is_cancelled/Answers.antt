use Rattle.xet_download.proofs.Refusals.{file_is_uncancelled, job_is_uncancelled, writer_is_uncancelled}
use Rattle.xet_download.proofs.laws.none_is_cancelled.Goals as goal

pub returns : goal.returns
returns c = record { writer = writer_is_uncancelled; file = file_is_uncancelled; job = job_is_uncancelled }
