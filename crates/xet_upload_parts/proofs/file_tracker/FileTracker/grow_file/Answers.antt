use Rattle.xet_upload_parts.proofs.Tracked.{tracks-none, tracks-one}
use Rattle.xet_upload_parts.proofs.file_tracker.FileTracker.grow_file.Goals as goal

pub returns-in-Ok : goal.returns-in-Ok
returns-in-Ok g c = tracks-one _ _ _ _ _ _ (rw c.in-Ok.is at c.increment_file_size.ensures)

pub returns-in-Err : goal.returns-in-Err
returns-in-Err g c = rw c.from.ensures (tracks-none _ _ _ _ _ (rw c.in-Err.is at c.increment_file_size.ensures))
