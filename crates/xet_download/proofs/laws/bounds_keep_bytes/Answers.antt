use Rattle.xet_download.proofs.Bounds.{keeps_bytes}
use Rattle.xet_download.proofs.laws.bounds_keep_bytes.Goals as goal

pub returns : goal.returns
returns c = keeps_bytes
