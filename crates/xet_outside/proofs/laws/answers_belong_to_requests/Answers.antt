use Rattle.xet_outside.proofs.RequestAnswers.{answer_after, answer_before, block_paired, paired_both, plan_paired}
use Rattle.xet_outside.proofs.laws.answers_belong_to_requests.Goals as goal

pub returns : goal.returns
returns c = record {
  block = block_paired;
  plan = plan_paired;
  calls = paired_both;
  stay = answer_before;
  come = λ b m xs ys all more e d p a. answer_after xs ys all more e d p.paired a;
}
