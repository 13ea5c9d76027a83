use Rattle.std.proofs.Common.{ap, refl, ◌∙◌}
use Rattle.xet_upload_session.specs.Sessions.{SessionTold}
use Rattle.xet_upload_session.proofs.CutTracking.{file-waits, file-waits-ok}
use Rattle.xet_upload_session.proofs.Completions.{names-after, took-after, took-uncut}
use Rattle.xet_upload_session.proofs.session.FileUploadSession.cut_waiting.Goals as goal

pub returns-in-Err : goal.returns-in-Err
returns-in-Err g c = record {
  call = took-uncut _ _ _ _ _ c.requires.storable c.requires.passes c.requires.larger (rw c.in-Err.is at c.checkpoint.ensures.call);
  tracks = file-waits _ _ _ _ _ _ c.requires.passes _ c.requires.larger refl (rw c.in-Err.is at c.checkpoint.ensures.tracks);
  group = c.checkpoint.ensures.group;
}

pub returns-in-Ok : goal.returns-in-Ok
returns-in-Ok g c =
    let put = ap (λ (t : SessionTold). t.registered) c.replace_waiting.ensures.same in
    record {
      call = took-after _ _ _ _ _ _ c.requires.storable c.requires.passes c.requires.larger (rw c.in-Ok.is at c.checkpoint.ensures.call) c.replace_waiting.ensures.same;
      tracks = rw c.replace_waiting.ensures.untold (file-waits-ok _ _ _ _ _ _ _ c.requires.passes c.requires.larger put (rw c.in-Ok.is at c.checkpoint.ensures.tracks));
      group = (c.replace_waiting.ensures.group.0 ∙ c.checkpoint.ensures.group.0, c.replace_waiting.ensures.group.1 ∙ c.checkpoint.ensures.group.1);
    }

pub replace_waiting-requires : goal.replace_waiting-requires
replace_waiting-requires g c = record { named = names-after _ _ c.args.file_data _ c.checkpoint.result c.requires.named c.checkpoint.ensures.call; storable = c.requires.storable }
