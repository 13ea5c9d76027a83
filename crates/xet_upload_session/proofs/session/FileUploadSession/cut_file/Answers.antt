use Rattle.std.proofs.Common.{◌∙◌}
use Rattle.xet_upload_session.proofs.CutTracking.{file-cut}
use Rattle.xet_upload_session.proofs.Completions.{names-aside, took-cut}
use Rattle.xet_upload_session.proofs.Tests.{has-listed, tested-storable}
use Rattle.xet_upload_session.proofs.session.FileUploadSession.cut_file.Goals as goal

pub returns : goal.returns
returns g c = record {
  call = took-cut _ _ _ _ _ _ _ c.checkpoint-answer.result c.requires.storable c.requires.passes c.requires.larger c.replace_waiting-waiting.ensures.same c.checkpoint-answer.ensures.call c.replace_waiting.ensures.same c.replace_waiting-waiting.ensures.is;
  tracks = rw c.replace_waiting.ensures.untold (file-cut _ _ _ _ _ c.checkpoint-answer.result c.requires.passes _ _ _ c.requires.larger c.replace_waiting-waiting.ensures.same c.replace_waiting.ensures.same (rw c.replace_waiting-waiting.ensures.untold at c.checkpoint-answer.ensures.tracks));
  group = (c.replace_waiting.ensures.group.0 ∙ c.checkpoint-answer.ensures.group.0 ∙ c.replace_waiting-waiting.ensures.group.0, c.replace_waiting.ensures.group.1 ∙ c.checkpoint-answer.ensures.group.1 ∙ c.replace_waiting-waiting.ensures.group.1);
}

pub replace_waiting-requires : goal.replace_waiting-requires
replace_waiting-requires g c = record {
  named = names-aside _ _ _ _ _ _ c.checkpoint-answer.result (has-listed _ c.args.self.now.lists c.args.self.now.waits) c.replace_waiting-waiting.ensures.same c.replace_waiting-waiting.ensures.is c.checkpoint-answer.ensures.call;
  storable = rw c.replace_waiting-waiting.ensures.is (tested-storable _ c.args.self.now.waits);
}
