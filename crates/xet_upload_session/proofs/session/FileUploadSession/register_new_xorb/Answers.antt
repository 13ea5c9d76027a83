use Rattle.std.proofs.Common.{ap, inl, refl, subst, sym, ◌∙◌, ◌≡◌}
use Rattle.std.specs.Prelude.{Contains, Err, List, None}
use Rattle.xet_base.specs.declared.merklehash.MerkleHash.{MerkleHash}
use Rattle.xet_upload.specs.declared.data_error.DataError.TheVariants as data_error
use Rattle.xet_upload_session.specs.Sessions.{SessionTold}
use Rattle.xet_base.proofs.CallerLemmas.{err-of}
use Rattle.xet_upload_session.proofs.Cuts.{registers-finalized, registers-kept, registers-refused}
use Rattle.xet_upload_session.proofs.Ends.{backs-kept}
use Rattle.xet_upload_session.proofs.Tests.{has-listed, tested-storable}
use Rattle.xet_upload_session.proofs.Tracking.{told-failed, told-finalized, told-put, told-refused, told-unmade}
use Rattle.xet_upload_session.proofs.session.FileUploadSession.register_new_xorb.Goals as goal

pub returns-then-self : goal.returns-then-self
returns-then-self g c =
    let call = registers-finalized _ _ _ c.if-self.true in
    record { call = call; tracks = told-finalized _ _ _ _ c.if-self.true; group = (refl, refl); backs = backs-kept _ _ (has-listed _ c.args.self.now.lists c.args.self.now.waits) call.keeps call.listed (tested-storable _ c.args.self.now.waits) }

pub returns-in-Some : goal.returns-in-Some
returns-in-Some g c =
    let kept = rw c.in-Some.is at c.kept_failure.ensures.some in
    let call = registers-kept _ _ _ c.if-self.false _ kept in
    rw c.from.ensures (record { call = call; tracks = told-failed _ _ _ _ _; group = (refl, refl); backs = backs-kept _ _ (has-listed _ c.args.self.now.lists c.args.self.now.waits) call.keeps call.listed (tested-storable _ c.args.self.now.waits) })

pub returns-in_err-make_room : goal.returns-in_err-make_room
returns-in_err-make_room g c =
    let e : c.from_residual.result ≡ Err data_error.OutOfMemory = err-of _ _ c.from_residual.ensures in
    let call = registers-refused _ _ _ c.if-self.false data_error.OutOfMemory None (inl refl) (c.kept_failure.ensures.none c.in_default.is) in
    rw (e, c.make_room.ensures.same, c.make_room.ensures.untold) (record { call = call; tracks = told-unmade _ _ _ _; group = c.make_room.ensures.group; backs = backs-kept _ _ (has-listed _ c.args.self.now.lists c.args.self.now.waits) call.keeps call.listed (tested-storable _ c.args.self.now.waits) })

pub returns : goal.returns
returns g c =
    let sound = c.kept_failure.ensures.none c.in_default.is in
    let tracks = rw (c.in-Err.is, ap (λ (t : SessionTold). t.registered) c.make_room.ensures.same, c.make_room.ensures.untold) at c.register_given.ensures in
    let call = registers-refused _ _ _ c.if-self.false _ _ tracks.err sound in
    rw c.make_room.ensures.same (record { call = call; tracks = told-refused _ _ _ _ c.if-self.false sound _ _ tracks; group = c.make_room.ensures.group; backs = backs-kept _ _ (has-listed _ c.args.self.now.lists c.args.self.now.waits) call.keeps call.listed (tested-storable _ c.args.self.now.waits) })

pub returns-in-Ok : goal.returns-in-Ok
returns-in-Ok g c =
    let sound = c.kept_failure.ensures.none c.in_default.is in
    let tracks = rw (c.in-Ok.is, ap (λ (t : SessionTold). t.registered) c.make_room.ensures.same, c.make_room.ensures.untold) at c.register_given.ensures in
    let call = rw c.make_room.ensures.same at c.put_new.ensures.call in
    record {
      call = call;
      tracks = told-put _ _ _ _ c.if-self.false sound _ _ _ _ tracks c.put_new.result (rw c.make_room.ensures.same at c.put_new.ensures.tracked) (rw c.make_room.ensures.same at c.put_new.ensures.why);
      group = (c.put_new.ensures.group.0 ∙ c.make_room.ensures.group.0, c.put_new.ensures.group.1 ∙ c.make_room.ensures.group.1);
      backs = backs-kept _ _ (has-listed _ c.args.self.now.lists c.args.self.now.waits) call.keeps call.listed (tested-storable _ c.put_new.new.self.waits);
    }

pub put_new-requires-clause-unfailed : goal.put_new-requires-clause-unfailed
put_new-requires-clause-unfailed g c fresh low =
    let same = c.make_room.ensures.same in
    let P : List MerkleHash → Type 0 = λ hs. Contains hs c.args.raw.xorb.hash in
    ap (λ (t : SessionTold). t.failed) same ∙ c.kept_failure.ensures.none c.in_default.is (λ old. fresh (subst P (sym (ap (λ (t : SessionTold). t.registered) same)) old)) low
