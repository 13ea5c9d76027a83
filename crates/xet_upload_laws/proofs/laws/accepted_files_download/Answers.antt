use Rattle.xet_upload_laws.proofs.Downloads.{accepted-download}
use Rattle.xet_upload_laws.proofs.laws.accepted_files_download.Goals as goal

pub returns : goal.returns
returns c = record { finalize = accepted-download; files = accepted-download; report = accepted-download }
