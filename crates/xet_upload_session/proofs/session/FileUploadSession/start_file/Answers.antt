use Rattle.std.proofs.Common.{refl}
use Rattle.std.proofs.lemmas.Bool.{false≢true}
use Rattle.xet_upload_session.proofs.Tracking.{starts-drawn, starts-ended, starts-none}
use Rattle.xet_upload_session.proofs.session.FileUploadSession.start_file.Goals as goal

pub returns-then-self : goal.returns-then-self
returns-then-self g c = record { same = refl; starts = starts-ended _ _ _ _ c.if-self.true; group = refl }

pub returns-in-Ok : goal.returns-in-Ok
returns-in-Ok g c =
    let next = rw c.in-Ok.is at c.next.ensures in
    record {
      same = refl;
      starts = starts-drawn _ _ _ _ c.if-self.false _ _ _ next.ok (λ q. false≢true (next.used_up.1 q)) c.add_file.result c.add_file.ensures.tracks c.add_file.ensures.id c.add_file.ensures.number;
      group = refl;
    }

pub returns-in-Err : goal.returns-in-Err
returns-in-Err g c =
    let next = rw c.in-Err.is at c.next.ensures in
    record { same = refl; starts = starts-none _ _ _ _ c.if-self.false _ _ next.err (next.used_up.0 refl); group = refl }
