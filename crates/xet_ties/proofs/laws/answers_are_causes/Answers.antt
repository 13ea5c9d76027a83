use Rattle.xet_ties.proofs.FileCauses.{missing_file}
use Rattle.xet_ties.proofs.FirstCauses.{corrupted}
use Rattle.xet_ties.proofs.SaidCauses.{file_missing, plan_fails, step_fails}
use Rattle.xet_ties.proofs.laws.answers_are_causes.Goals as goal

pub returns : goal.returns
returns c = record {
  plan = plan_fails;
  file = file_missing;
  missing = missing_file;
  failed = corrupted;
  block = step_fails;
}
