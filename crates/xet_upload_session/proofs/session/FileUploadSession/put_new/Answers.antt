use Rattle.std.proofs.Common.{arith, inl, refl, ◌≡◌}
use Rattle.std.specs.Prelude.{Err, None}
use Rattle.xet_upload.specs.declared.data_error.DataError.TheVariants as data_error
use Rattle.xet_base.proofs.CallerLemmas.{err-of}
use Rattle.xet_upload_session.proofs.Cuts.{given-put, registers-again, registers-empty, registers-err, registers-put, registers-refused}
use Rattle.xet_upload_session.proofs.Tracking.{given-again, given-counted, given-empty, given-failed, given-uncounted}
use Rattle.xet_upload_session.proofs.session.FileUploadSession.put_new.Goals as goal

pub returns-then-contains : goal.returns-then-contains
returns-then-contains g c =
    let old = c.contains.ensures.yes c.if-contains.true in
    record { call = rw c.push.ensures (registers-again _ _ _ c.requires.first old); why = tt; tracked = given-again _ _ _ _ _ refl old refl; group = (refl, refl) }

pub returns-in_err-complete : goal.returns-in_err-complete
returns-in_err-complete g c =
    let e : c.from_residual.result ≡ Err data_error.OutOfMemory = err-of _ _ c.from_residual.ensures in
    let fresh = c.contains.ensures.no c.if-contains.false in
    rw e (record {
      call = registers-refused _ _ _ c.requires.first data_error.OutOfMemory None (inl refl) c.requires.unfailed;
      why = inl (inl (inl refl));
      tracked = given-uncounted _ _ _ _ _ fresh (omega arith) refl c.in_err-complete.ensures.err;
      group = (refl, refl);
    })

pub returns-then-len-eq0 : goal.returns-then-len-eq0
returns-then-len-eq0 g c =
    let fresh = c.contains.ensures.no c.if-contains.false in
    record {
      call = registers-empty _ _ _ c.requires.first fresh (omega arith);
      why = tt;
      tracked = given-empty _ _ _ _ _ fresh refl c.in_ok-complete.ensures.ok;
      group = (refl, refl);
    }

pub returns-in-Err : goal.returns-in-Err
returns-in-Err g c =
    let fresh = c.contains.ensures.no c.if-contains.false in
    let put = given-put _ _ _ _ _ (rw (c.in-Err.is, c.new.ensures) at c.put_finished.ensures.call) in
    record {
      call = registers-err _ _ _ c.requires.first fresh (c.requires.unfailed fresh (omega arith)) _ _ (omega arith) put;
      why = put.why;
      tracked = given-failed _ _ _ _ _ fresh _ (rw c.in-Err.is at c.put_finished.ensures.tracked);
      group = c.put_finished.ensures.group;
    }

pub returns-in-Ok : goal.returns-in-Ok
returns-in-Ok g c =
    let fresh = c.contains.ensures.no c.if-contains.false in
    record {
      call = registers-put _ _ _ c.requires.first fresh (c.requires.unfailed fresh (omega arith)) _ _ (omega arith) (given-put _ _ _ _ _ (rw (c.in-Ok.is, c.new.ensures) at c.put_finished.ensures.call));
      why = tt;
      tracked = given-counted _ _ _ _ _ fresh _ (rw c.in-Ok.is at c.put_finished.ensures.tracked);
      group = c.put_finished.ensures.group;
    }

pub put_finished-requires-clause-unfailed : goal.put_finished-requires-clause-unfailed
put_finished-requires-clause-unfailed g c = c.requires.unfailed (c.contains.ensures.no c.if-contains.false) (omega arith)
