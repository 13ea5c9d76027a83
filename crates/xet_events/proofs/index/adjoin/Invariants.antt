use Rattle.std.proofs.Common.{drop}
use Rattle.xet_events.specs.Allowed.{Adjoin}
use Rattle.xet_events.proofs.index.adjoin.Given as goal

abbrev pub invariant-loop-at : goal.invariant-loop-at
invariant-loop-at g l = record {
  forward : Adjoin l.place l.blocks (g.S.PlanSource.terms l.source) → Adjoin l.end l.blocks (drop l.at (g.S.PlanSource.terms l.source));
  back : Adjoin l.end l.blocks (drop l.at (g.S.PlanSource.terms l.source)) → Adjoin l.place l.blocks (g.S.PlanSource.terms l.source);
}
