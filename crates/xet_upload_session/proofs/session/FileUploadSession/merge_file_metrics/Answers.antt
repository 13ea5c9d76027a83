use Rattle.std.proofs.Common.{refl}
use Rattle.xet_upload_session.proofs.Completions.{backs-merged, keeps-merged}
use Rattle.xet_upload_session.proofs.Tests.{has-listed}
use Rattle.xet_upload_session.proofs.session.FileUploadSession.merge_file_metrics.Goals as goal

pub returns-clause-keeps : goal.returns-clause-keeps
returns-clause-keeps g c = keeps-merged _ _ c.args.counts.now (rw c.merge_in.ensures refl)

pub returns-clause-backs : goal.returns-clause-backs
returns-clause-backs g c = backs-merged _ _ c.args.counts.now (has-listed _ c.args.self.now.lists c.args.self.now.waits) (rw c.merge_in.ensures refl)
