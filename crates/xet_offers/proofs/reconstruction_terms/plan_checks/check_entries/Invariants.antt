use Rattle.std.proofs.Common.{◌≡◌, drop, map}
use Rattle.xet_base.specs.Lists.{first_some}
use Rattle.xet_outside.specs.Plan.{xorb_shape}
use Rattle.xet_offers.specs.PlanChecks.{failed_ranges}
use Rattle.xet_offers.proofs.reconstruction_terms.plan_checks.check_entries.Given as goal

abbrev pub invariant-loop-xorb : goal.invariant-loop-xorb
invariant-loop-xorb l =
    first_some (map failed_ranges (map xorb_shape (drop l.xorb-index l.xorb-items))) ≡ first_some (map failed_ranges (map xorb_shape l.xorb-items))
