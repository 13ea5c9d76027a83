use Rattle.std.proofs.Common.{refl}
use Rattle.xet_upload_session.proofs.session.FileUploadSession.grow_file.Goals as goal

pub returns : goal.returns
returns g c = record { same = refl; tracks = c.grow_file.ensures; group = (refl, refl) }
