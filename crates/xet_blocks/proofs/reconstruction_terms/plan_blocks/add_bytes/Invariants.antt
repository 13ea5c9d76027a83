use Rattle.std.proofs.Common.{◌≡◌, ◌+◌, ◌-◌, ◌^◌, take}
use Rattle.std.specs.Prelude.{min}
use Rattle.xet_offers.specs.Blocks.{range_bytes}
use Rattle.xet_blocks.proofs.reconstruction_terms.plan_blocks.add_bytes.Given as goal

abbrev pub invariant-loop-range : goal.invariant-loop-range
invariant-loop-range l = l.sum ≡ min (l.fn.sum + range_bytes (take l.range-index l.ranges)) (2 ^ 64 - 1)
