use Rattle.std.proofs.Common.{arith}
use Rattle.xet_upload_parts.proofs.Tracked.{tracks-none, tracks-nothing, tracks-one}
use Rattle.xet_upload_parts.proofs.file_tracker.FileTracker.add_file.Goals as goal

pub returns-in_default-clause-tracks : goal.returns-in_default-clause-tracks
returns-in_default-clause-tracks g c = tracks-nothing _ _ (omega arith)

pub returns-in-Ok-add_item-clause-tracks : goal.returns-in-Ok-add_item-clause-tracks
returns-in-Ok-add_item-clause-tracks g c = tracks-one _ _ _ _ _ _ (rw c.in-Ok-add_item.is at c.add_item.ensures)

pub returns-in-Err-clause-tracks : goal.returns-in-Err-clause-tracks
returns-in-Err-clause-tracks g c = rw c.from.ensures (tracks-none _ _ _ _ _ (rw c.in-Err.is at c.add_item.ensures))
