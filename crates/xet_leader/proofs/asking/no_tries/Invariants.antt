use Rattle.std.proofs.Common.{◌≡◌, map, take}
use Rattle.xet_leader.proofs.asking.no_tries.Given as goal

abbrev pub invariant-loop-block : goal.invariant-loop-block
invariant-loop-block l = l.tries.items ≡ map (λ _. 0) (take l._block-index l.blocks)
