use Rattle.xet_upload_session.proofs.Tests.{are-replaced, waits-replaced}
use Rattle.xet_upload_session.proofs.session.FileUploadSession.replace_waiting.Goals as goal

pub invariant_of-self : goal.invariant_of-self
invariant_of-self g c = record { lists = λ f z. are-replaced _ _ _ _ (c.args.self.now.lists f z) _ _ c.replace.ensures.after (c.requires.named f z); waits = waits-replaced _ _ c.replace.ensures.after c.requires.storable }
