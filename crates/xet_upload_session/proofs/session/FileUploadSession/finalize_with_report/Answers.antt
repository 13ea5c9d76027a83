use Rattle.std.proofs.Common.{refl}
use Rattle.xet_upload_session.proofs.CutTracking.{tracks-err, tracks-later}
use Rattle.xet_upload_session.proofs.Ends.{backs-finalized, retold, retold-ok}
use Rattle.xet_upload_session.proofs.Tests.{has-listed, tested-storable}
use Rattle.xet_upload_session.proofs.session.FileUploadSession.finalize_with_report.Goals as goal

pub returns-in-Err : goal.returns-in-Err
returns-in-Err g c =
    let call = retold _ _ _ _ (rw c.in-Err.is at c.finalize.ensures.call) in
    record { call = call; tracks = tracks-err _ _ _ _ _ (rw c.in-Err.is at c.finalize.ensures.tracks); untold = c.finalize.ensures.untold; group = c.finalize.ensures.group; counts = tt; sums = tt; bytes = tt; transfer = tt; backs = backs-finalized _ _ _ _ (has-listed _ c.args.self.now.lists c.args.self.now.waits) call (tested-storable _ c.finalize.new.self.waits) }

pub returns-in-Ok : goal.returns-in-Ok
returns-in-Ok g c =
    let call = retold-ok _ _ _ _ _ (rw c.in-Ok.is at c.finalize.ensures.call) in
    record { call = call; tracks = tracks-later _ _ _ _ _ _ _ refl (rw c.in-Ok.is at c.finalize.ensures.tracks); untold = c.finalize.ensures.untold; group = c.finalize.ensures.group; counts = rw c.in-Ok.is at c.finalize.ensures.counts; sums = c.report.ensures.sums; bytes = c.report.ensures.bytes; transfer = c.report.ensures.transfer; backs = backs-finalized _ _ _ _ (has-listed _ c.args.self.now.lists c.args.self.now.waits) call (tested-storable _ c.finalize.new.self.waits) }
