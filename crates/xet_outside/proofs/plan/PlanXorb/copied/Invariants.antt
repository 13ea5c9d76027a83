use Rattle.std.proofs.Common.{◌≡◌, take}
use Rattle.xet_outside.proofs.plan.PlanXorb.copied.Given as goal

abbrev pub invariant-loop-entry : goal.invariant-loop-entry
invariant-loop-entry l = l.fetch ≡ take l.entry-index l.entry-items
