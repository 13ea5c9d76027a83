use Rattle.std.proofs.Common.{ap, ◌∙◌}
use Rattle.xet_upload_session.specs.Sessions.{SessionTold}
use Rattle.xet_upload_session.proofs.Cuts.{named-put, put-failed, put-finished, registered-put, registered-unput}
use Rattle.xet_upload_session.proofs.Tracking.{counted, unput}
use Rattle.xet_upload_session.proofs.session.FileUploadSession.put_finished.Goals as goal

pub returns-in-Err : goal.returns-in-Err
returns-in-Err g c =
    let was = rw c.in-Err.is at c.put_raw.ensures.call in
    let put = registered-unput _ _ _ _ was in
    record { call = put-failed _ _ _ _ _ _ was; tracked = unput _ _ _ _ _ _ put.0 put.1 c.put_raw.ensures.untold; group = c.put_raw.ensures.group }

pub finish_files-requires-clause-space : goal.finish_files-requires-clause-space
finish_files-requires-clause-space g c = rw c.put_raw.ensures.files c.requires.space

pub finish_files-requires-clause-named : goal.finish_files-requires-clause-named
finish_files-requires-clause-named g c = named-put _ _ _ _ (rw c.in-Ok.is at c.put_raw.ensures.call) _ c.requires.named

pub returns-in-Ok : goal.returns-in-Ok
returns-in-Ok g c =
    let was = rw c.in-Ok.is at c.put_raw.ensures.call in
    let put = ap (λ (t : SessionTold). t.registered) c.add_record.ensures.call.same ∙ registered-put _ _ _ _ _ _ was c.finish_files.ensures.call in
    record {
      call = put-finished _ _ _ _ _ _ _ _ _ was c.finish_files.ensures.call c.requires.describes c.add_record.result c.add_record.ensures.call;
      tracked = counted _ _ _ _ _ c.add_record.result put (rw (c.finish_files.ensures.untold, c.put_raw.ensures.untold) at c.add_record.ensures.tracked);
      group = (c.add_record.ensures.group.0 ∙ c.finish_files.ensures.group.0 ∙ c.put_raw.ensures.group.0, c.add_record.ensures.group.1 ∙ c.finish_files.ensures.group.1 ∙ c.put_raw.ensures.group.1);
    }
