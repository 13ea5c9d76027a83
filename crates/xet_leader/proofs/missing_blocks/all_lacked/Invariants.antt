use Rattle.std.proofs.Common.{◌≡◌, ◌-◌, ◌++◌, drop}
use Rattle.xet_leader.specs.Lacking.{lacked}
use Rattle.xet_leader.proofs.missing_blocks.all_lacked.Given as goal

-- the rest of the plans gives the rest of the blocks
abbrev pub invariant-loop-at : goal.invariant-loop-at
invariant-loop-at l = l.found ++ lacked l.ahead l.left (drop l.at l.plans.items) ≡ lacked l.skip l.count l.plans.items

abbrev pub decreases-loop-at : goal.decreases-loop-at
decreases-loop-at l = l.plans.len - l.at
