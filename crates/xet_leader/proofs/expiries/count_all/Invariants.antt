use Rattle.xet_leader.proofs.Counting.{CountLeft}
use Rattle.xet_leader.proofs.expiries.count_all.Given as goal

abbrev pub invariant-loop-at : goal.invariant-loop-at
invariant-loop-at l = CountLeft l.tries l.late l.at-index l.initial.plans.items l.plans.items l.initial.stale l.stale
