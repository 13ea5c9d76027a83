use Rattle.xet_upload_session.specs.Telling.{told_by}
use Rattle.xet_upload_session.proofs.Ends.{made-backed}
use Rattle.xet_upload_session.proofs.session.FileUploadSession.new.Goals as goal

pub returns-clause-backed : goal.returns-clause-backed
returns-clause-backed g c = made-backed told_by _ _ _ _ _ _ c.new-shards.ensures c.over.ensures.told
