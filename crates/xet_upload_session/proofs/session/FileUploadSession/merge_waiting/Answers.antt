use Rattle.xet_upload_session.proofs.Tests.{are-joined, waits-joined}
use Rattle.xet_upload_session.proofs.session.FileUploadSession.merge_waiting.Goals as goal

pub invariant_of-self : goal.invariant_of-self
invariant_of-self g c = record { lists = λ f z. are-joined _ _ _ _ (c.args.self.now.lists f z) _ _ c.merge_in.result c.merge_in.ensures.ok c.merge_in.ensures.err (c.requires.named f z); waits = waits-joined _ _ _ c.merge_in.result c.merge_in.ensures.ok c.merge_in.ensures.err c.args.self.now.waits c.requires.storable c.requires.within }
