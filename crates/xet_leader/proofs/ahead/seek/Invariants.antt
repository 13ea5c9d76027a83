use Rattle.std.proofs.Common.{◌≡◌, ◌-◌, length, drop}
use Rattle.xet_leader.specs.LedTerms.{led_terms}
use Rattle.xet_leader.proofs.ahead.seek.Given as goal

abbrev pub invariant-loop-plan : goal.invariant-loop-plan
invariant-loop-plan l = drop l.term (led_terms (drop l.plan l.plans.items)) ≡ drop l.fn.at.term
    (led_terms (drop l.fn.at.plan l.plans.items))

abbrev pub decreases-loop-plan : goal.decreases-loop-plan
decreases-loop-plan l = length l.plans.items - l.plan
