use Rattle.std.proofs.Common.{refl}
use Rattle.xet_upload_session.proofs.Keeping.{put-refused}
use Rattle.xet_upload_session.proofs.Tests.{are-put}
use Rattle.xet_upload_session.proofs.session.FileUploadSession.put_raw.Goals as goal

pub returns-in-Err-clause-call : goal.returns-in-Err-clause-call
returns-in-Err-clause-call g c = put-refused _ _ _ _ c.in-Err.ensures.refused refl c.requires.unfailed

pub invariant_of-self : goal.invariant_of-self
invariant_of-self g c = record { lists = λ f z. are-put _ _ _ _ (c.args.self.now.lists c.requires.unfailed z) _ _ _ c.push_reserved.ensures c.push_reserved-in-Ok.ensures; waits = c.args.self.now.waits }
