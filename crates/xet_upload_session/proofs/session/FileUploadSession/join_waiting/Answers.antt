use Rattle.std.proofs.Common.{refl}
use Rattle.xet_upload_session.proofs.CutTracking.{file-joined}
use Rattle.xet_upload_session.proofs.Completions.{took-joined, took-unjoined}
use Rattle.xet_upload_session.proofs.session.FileUploadSession.join_waiting.Goals as goal

pub returns-in-Err : goal.returns-in-Err
returns-in-Err g c = rw c.from.ensures (record {
  call = λ now. took-unjoined _ _ _ now _ c.requires.storable c.requires.fits (rw c.in-Err.is at c.merge_waiting.ensures.err) refl;
  tracks = file-joined _ _ _ _ _ _ c.requires.fits c.merge_waiting.ensures.untold;
  group = c.merge_waiting.ensures.group;
})

pub returns-in-Ok : goal.returns-in-Ok
returns-in-Ok g c = record {
  call = λ now. took-joined _ _ _ now c.requires.storable c.requires.fits (rw c.in-Ok.is at c.merge_waiting.ensures.ok);
  tracks = file-joined _ _ _ _ _ _ c.requires.fits c.merge_waiting.ensures.untold;
  group = c.merge_waiting.ensures.group;
}
