use Rattle.std.proofs.Common.{◌≡◌, ◌-◌, ◌^◌, take}
use Rattle.std.specs.Prelude.{min}
use Rattle.xet_offers.specs.Blocks.{start_index}
use Rattle.xet_fetch.proofs.cached_block.chunks_before.Given as goal

abbrev pub invariant-loop-range : goal.invariant-loop-range
invariant-loop-range l = l.count ≡ min (start_index (take l.range-index l.ranges) l.chunk) (2 ^ 64 - 1)
