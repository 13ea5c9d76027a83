use Rattle.std.proofs.Common.{◌≡◌, take}
use Rattle.xet_events.proofs.plan_source.copied_terms.Given as goal

abbrev pub invariant-loop-at : goal.invariant-loop-at
invariant-loop-at g l = l.terms ≡ take l.at (g.S.PlanSource.terms l.source)
