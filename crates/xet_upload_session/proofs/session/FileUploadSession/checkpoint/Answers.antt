use Rattle.std.proofs.Common.{ap, refl, ◌∙◌, ◌≡◌}
use Rattle.std.specs.Prelude.{Err}
use Rattle.xet_upload.specs.declared.data_error.DataError.TheVariants as data_error
use Rattle.xet_upload_session.specs.Sessions.{SessionTold}
use Rattle.xet_base.proofs.CallerLemmas.{err-of}
use Rattle.xet_upload_session.proofs.CutTracking.{cut-noted, cut-stopped, cut-told, cut-untold}
use Rattle.xet_upload_session.proofs.Cuts.{cut-failed, cut-put, cut-same, cut-still, names-cut, names-still, put-noted}
use Rattle.xet_upload_session.proofs.Ends.{backs-kept}
use Rattle.xet_upload_session.proofs.Tests.{has-listed, tested-storable}
use Rattle.xet_upload_session.proofs.session.FileUploadSession.checkpoint.Goals as goal

pub returns-in-Some : goal.returns-in-Some
returns-in-Some g c =
    let call = cut-failed _ _ _ (tested-storable _ c.args.self.now.waits) c.in-Some.is in
    rw c.from.ensures (record { call = call; tracks = cut-untold _ _ _ _ _ refl refl; group = (refl, refl); backs = backs-kept _ _ (has-listed _ c.args.self.now.lists c.args.self.now.waits) call.keeps call.listed (tested-storable _ c.args.self.now.waits) })

pub returns-in_err-raw : goal.returns-in_err-raw
returns-in_err-raw g c =
    let e : c.from_residual.result ≡ Err data_error.OutOfMemory = err-of _ _ c.from_residual.ensures in
    let took = rw c.in_err-raw.was at c.take_waiting.ensures.taken in
    let call = cut-same _ _ _ _ (tested-storable _ c.args.self.now.waits) c.in_default.is took in
    rw e (record {
      call = call;
      tracks = cut-untold _ _ _ _ _ (ap (λ (t : SessionTold). t.registered) took.err) c.take_waiting.ensures.untold;
      group = c.take_waiting.ensures.group;
      backs = backs-kept _ _ (has-listed _ c.args.self.now.lists c.args.self.now.waits) call.keeps call.listed (tested-storable _ c.take_waiting.new.self.waits);
    })

pub returns : goal.returns
returns g c =
    let took = rw c.in_ok-raw.was at c.take_waiting.ensures.taken in
    let put = rw c.in-Err.is at c.put_finished.ensures.call in
    let call = cut-put _ _ _ _ _ (tested-storable _ c.args.self.now.waits) took c.in_default.is _ c.num_chunks-chunks.ensures.chunks (c.is_new.ensures.some c.if-not-is_new.false) (c.is_new.ensures.new c.if-not-is_new.false) _ put in
    record {
      call = call;
      tracks = cut-stopped _ _ _ _ took c.in_default.is _ _ _ (rw (c.as_slice.ensures, c.take_waiting.ensures.untold) at c.register_cut-noted.ensures.notes) _ _ c.num_chunks-chunks.ensures.chunks (c.is_new.ensures.some c.if-not-is_new.false) _ (rw c.in-Err.is at c.put_finished.ensures.tracked);
      group = (c.put_finished.ensures.group.0 ∙ c.take_waiting.ensures.group.0, c.put_finished.ensures.group.1 ∙ c.take_waiting.ensures.group.1);
      backs = backs-kept _ _ (has-listed _ c.args.self.now.lists c.args.self.now.waits) call.keeps call.listed (tested-storable _ c.put_finished.new.self.waits);
    }

pub returns-in-Ok : goal.returns-in-Ok
returns-in-Ok g c =
    let took = rw c.in_ok-raw.was at c.take_waiting.ensures.taken in
    let put = put-noted _ _ _ _ _ _ c.register_cut-noted.result c.register_cut-noted.ensures.memory (rw c.in-Ok.is at c.put_finished.ensures.call) in
    let call = cut-put _ _ _ _ _ (tested-storable _ c.args.self.now.waits) took c.in_default.is _ c.num_chunks-chunks.ensures.chunks (c.is_new.ensures.some c.if-not-is_new.false) (c.is_new.ensures.new c.if-not-is_new.false) _ put in
    record {
      call = call;
      tracks = cut-told _ _ _ _ took c.in_default.is _ _ c.register_cut-noted.result (rw (c.as_slice.ensures, c.take_waiting.ensures.untold) at c.register_cut-noted.ensures.notes) _ _ c.num_chunks-chunks.ensures.chunks (c.is_new.ensures.some c.if-not-is_new.false) c.register_cut-noted.ensures.memory _ (rw c.in-Ok.is at c.put_finished.ensures.tracked);
      group = (c.put_finished.ensures.group.0 ∙ c.take_waiting.ensures.group.0, c.put_finished.ensures.group.1 ∙ c.take_waiting.ensures.group.1);
      backs = backs-kept _ _ (has-listed _ c.args.self.now.lists c.args.self.now.waits) call.keeps call.listed (tested-storable _ c.put_finished.new.self.waits);
    }

pub returns-then-not-is_new : goal.returns-then-not-is_new
returns-then-not-is_new g c =
    let took = rw c.in_ok-raw.was at c.take_waiting.ensures.taken in
    let call = cut-still _ _ _ _ _ (tested-storable _ c.args.self.now.waits) took c.in_default.is _ c.num_chunks-chunks.ensures.chunks c.num_chunks-chunks.ensures.counted _ c.finish_files.ensures.call c.repeat_cut.ensures.call (c.is_new.ensures.old c.if-not-is_new.true) in
    let put = ap (λ (t : SessionTold). t.registered) c.repeat_cut.ensures.call.same ∙ ap (λ (t : SessionTold). t.registered) c.finish_files.ensures.call ∙ ap (λ (t : SessionTold). t.registered) took.ok in
    record {
      call = call;
      tracks = rw (c.repeat_cut.ensures.untold, c.finish_files.ensures.untold) (cut-noted _ _ _ _ took c.in_default.is _ _ _ (rw (c.as_slice.ensures, c.take_waiting.ensures.untold) at c.register_cut-noted.ensures.notes) _ put);
      group = (c.repeat_cut.ensures.group.0 ∙ c.finish_files.ensures.group.0 ∙ c.take_waiting.ensures.group.0, c.repeat_cut.ensures.group.1 ∙ c.finish_files.ensures.group.1 ∙ c.take_waiting.ensures.group.1);
      backs = backs-kept _ _ (has-listed _ c.args.self.now.lists c.args.self.now.waits) call.keeps call.listed (tested-storable _ c.repeat_cut.new.self.waits);
    }

pub put_finished-requires-clause-named : goal.put_finished-requires-clause-named
put_finished-requires-clause-named g c =
    names-cut _ _ _ (rw c.in_ok-raw.was at c.take_waiting.ensures.taken) c.in_default.is (has-listed _ c.args.self.now.lists c.args.self.now.waits)

pub finish_files-requires-clause-named : goal.finish_files-requires-clause-named
finish_files-requires-clause-named g c =
    names-still _ _ _ (rw c.in_ok-raw.was at c.take_waiting.ensures.taken) c.in_default.is (has-listed _ c.args.self.now.lists c.args.self.now.waits) _ c.num_chunks-chunks.ensures.chunks c.num_chunks-chunks.ensures.counted (c.is_new.ensures.old c.if-not-is_new.true)
