use Rattle.xet_ties.proofs.LaneMore.{one_more, step_did}
use Rattle.xet_ties.proofs.SaidTies.{step_data}
use Rattle.xet_ties.proofs.laws.lanes_go_on.Goals as goal

pub returns : goal.returns
returns c = record {
  step = step_did;
  more = one_more;
  serve = step_data;
}
