use Rattle.std.proofs.Common.{◌-◌, length, drop}
use Rattle.xet_leader.specs.LedTerms.{led_terms}
use Rattle.xet_stages.proofs.WindowSteps.{WindowSo}
use Rattle.xet_stages.proofs.queueing.queue_terms.Given as goal

abbrev pub invariant-terms : goal.invariant-terms
invariant-terms g l = WindowSo (drop l.fn.skip (led_terms l.plans.items)) l.most l.initial.writer l.writer l.lengths
    (drop l.at.term (led_terms (drop l.at.plan l.plans.items)))

abbrev pub decreases-terms : goal.decreases-terms
decreases-terms g l = l.most - length l.lengths
