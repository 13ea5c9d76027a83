use Rattle.std.proofs.Common.{rules}
use Rattle.xet_lane.proofs.LaneSteps.{one_step}
use Rattle.xet_lane.proofs.lane.Lane.fetch.Goals as goal

pub returns-clause-call : goal.returns-clause-call
returns-clause-call g c = one_step _ _ _ _ _ _ _ c.requires.asks c.block-answer.ensures c.step_of-step.ensures (search rules)
