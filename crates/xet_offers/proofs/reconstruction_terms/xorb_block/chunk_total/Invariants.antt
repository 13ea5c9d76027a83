use Rattle.std.proofs.Common.{◌≡◌, take}
use Rattle.xet_offers.specs.BlockChecks.{chunk_total}
use Rattle.xet_offers.proofs.reconstruction_terms.xorb_block.chunk_total.Given as goal

abbrev pub invariant-loop-range : goal.invariant-loop-range
invariant-loop-range l = l.total ≡ chunk_total (take l.range-index l.ranges)
