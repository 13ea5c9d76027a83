use Rattle.std.proofs.Common.{◌≡◌, ◌≤◌, ◌++◌, length, drop, zip}
use Rattle.xet_offers.specs.BlockChecks.{numbers_in}
use Rattle.xet_offers.proofs.reconstruction_terms.xorb_block.numbered_pairs.Given as goal

abbrev pub invariant-loop-range : goal.invariant-loop-range
invariant-loop-range l =
    (length l.pairs.items ≤ length l.offsets)
    × (l.pairs.items ++ zip (numbers_in (drop l.range-index l.ranges)) (drop (length l.pairs.items) l.offsets) ≡ zip (numbers_in l.ranges) l.offsets)
