use Rattle.std.proofs.Common.{arith}
use Rattle.xet_upload_session.proofs.Cuts.{kept-so}
use Rattle.xet_upload_session.proofs.session.FileUploadSession.kept_failure.Goals as goal

pub returns-then-len-eq0 : goal.returns-then-len-eq0
returns-then-len-eq0 g c = record { some = tt; none = λ e fresh low. absurd (omega (arith, low)) }

pub returns-then-contains : goal.returns-then-contains
returns-then-contains g c = record { some = tt; none = λ e fresh low. absurd (fresh (c.contains.ensures.yes c.if-contains.true)) }

pub returns : goal.returns
returns g c = record { some = kept-so c.args.self.now.failed (omega arith) (c.contains.ensures.no c.if-contains.false); none = λ e fresh low. e }
