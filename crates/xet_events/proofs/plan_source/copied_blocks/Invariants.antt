use Rattle.std.proofs.Common.{◌≡◌, take}
use Rattle.xet_events.proofs.plan_source.copied_blocks.Given as goal

abbrev pub invariant-loop-at : goal.invariant-loop-at
invariant-loop-at g l = l.blocks ≡ take l.at (g.S.PlanSource.blocks l.source)
