use Rattle.std.proofs.Common.{◌≡◌, drop}
use Rattle.xet_offers.specs.PlanChecks.{unordered}
use Rattle.xet_offers.proofs.reconstruction_terms.plan_checks.is_unordered.Given as goal

abbrev pub invariant-loop-range : goal.invariant-loop-range
invariant-loop-range l = unordered l.low (drop l.range-index l.ranges) ≡ unordered 0 l.ranges
