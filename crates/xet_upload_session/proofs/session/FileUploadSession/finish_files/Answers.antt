use Rattle.xet_upload_session.proofs.Tests.{are-appended}
use Rattle.xet_upload_session.proofs.session.FileUploadSession.finish_files.Goals as goal

pub invariant_of-self : goal.invariant_of-self
invariant_of-self g c = record { lists = λ f z. are-appended _ _ _ _ _ _ _ c.append_reserved.ensures c.into_inner-files.ensures (c.args.self.now.lists f z) (c.requires.named f z); waits = c.args.self.now.waits }
