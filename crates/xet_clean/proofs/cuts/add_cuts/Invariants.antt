use Rattle.std.proofs.Common.{◌≡◌, length}
use Rattle.xet_clean.proofs.FoundCuts.{Walk}
use Rattle.xet_clean.proofs.cuts.add_cuts.Given as goal

abbrev pub invariant-chunks : goal.invariant-chunks
invariant-chunks g l = record {
  walk : Walk (g.T.Cutter.told l.initial.cutter) l.last l.pending l.rest l.cuts.items;
  kept : g.T.Cutter.told l.cutter ≡ g.T.Cutter.told l.initial.cutter;
}

abbrev pub decreases-chunks : goal.decreases-chunks
decreases-chunks g l = length l.rest
