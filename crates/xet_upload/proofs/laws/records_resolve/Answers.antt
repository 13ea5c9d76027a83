use Rattle.xet_upload.proofs.Resolved.{after_resolved}
use Rattle.xet_upload.proofs.SameHashes.{later_resolved, same_bytes}
use Rattle.xet_upload.proofs.laws.records_resolve.Goals as goal

pub returns : goal.returns
returns c = record { first = after_resolved; same = same_bytes; later = later_resolved }
