use Rattle.xet_upload_session.proofs.Tests.{has-listed}
use Rattle.xet_upload_session.proofs.session.FileUploadSession.is_finalized.Goals as goal

pub returns-clause-listed : goal.returns-clause-listed
returns-clause-listed g c = has-listed _ c.args.self.now.lists c.args.self.now.waits
