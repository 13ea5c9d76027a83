use Rattle.std.proofs.Common.{◌≡◌, map, take}
use Rattle.xet_blocks.proofs.reconstruction_terms.plan_blocks.bytes_of.Given as goal

abbrev pub invariant-loop-range : goal.invariant-loop-range
invariant-loop-range l = l.made ≡ map (λ r. r.bytes) (take l.range-index l.ranges)
