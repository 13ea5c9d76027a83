use Rattle.std.proofs.Common.{◌≡◌, length}
use Rattle.xet_leader.specs.Advances.{unfinished_plans}
use Rattle.xet_leader.proofs.advancing.drop_finished.Given as goal

abbrev pub invariant-loop-plans : goal.invariant-loop-plans
invariant-loop-plans l = unfinished_plans l.finished l.plans.items ≡ unfinished_plans l.finished l.initial.plans.items

abbrev pub decreases-loop-plans : goal.decreases-loop-plans
decreases-loop-plans l = length l.plans.items
