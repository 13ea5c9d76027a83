use Rattle.xet_outside.proofs.RequestAnswers.{answered_both, block_unasked, query_after, query_answered, query_before}
use Rattle.xet_outside.proofs.laws.answers_belong_to_queries.Goals as goal

pub returns : goal.returns
returns c = record {
  plan = query_answered;
  block = block_unasked;
  calls = answered_both;
  stay = query_before;
  come = λ b m xs ys all more q a p t. query_after xs ys all more q a p.answered t;
}
