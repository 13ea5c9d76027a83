use Rattle.xet_download.proofs.Exact.{file_calls_are_exact, job_runs_are_exact, writer_calls_are_exact}
use Rattle.xet_download.proofs.laws.downloads_are_exact.Goals as goal

pub returns : goal.returns
returns c = record { writer = writer_calls_are_exact; file = file_calls_are_exact; job = job_runs_are_exact }
