use Rattle.std.proofs.Common.{◌≡◌, take}
use Rattle.xet_outside.proofs.plan.Plan.copied.Given as goal

abbrev pub invariant-loop-xorb : goal.invariant-loop-xorb
invariant-loop-xorb l = l.xorbs ≡ take l.xorb-index l.xorb-items
