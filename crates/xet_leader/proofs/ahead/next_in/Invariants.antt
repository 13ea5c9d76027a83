use Rattle.std.proofs.Common.{length, drop}
use Rattle.xet_leader.specs.LedTerms.{led_terms}
use Rattle.xet_leader.proofs.NextTerms.{PassedSo}
use Rattle.xet_leader.proofs.ahead.next_in.Given as goal

abbrev pub invariant-terms : goal.invariant-terms
invariant-terms l = PassedSo (drop l.fn.skip (led_terms l.plans.items)) l.empties
    (drop l.at.term (led_terms (drop l.at.plan l.plans.items)))

abbrev pub decreases-terms : goal.decreases-terms
decreases-terms l = length (drop l.at.term (led_terms (drop l.at.plan l.plans.items)))
