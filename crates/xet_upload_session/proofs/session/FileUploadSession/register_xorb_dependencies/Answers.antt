use Rattle.std.proofs.Common.{refl}
use Rattle.xet_upload_session.proofs.session.FileUploadSession.register_xorb_dependencies.Goals as goal

pub returns : goal.returns
returns g c = record { same = refl; tracks = c.register_dependencies.ensures; listed = refl; registered = refl; group = (refl, refl) }
