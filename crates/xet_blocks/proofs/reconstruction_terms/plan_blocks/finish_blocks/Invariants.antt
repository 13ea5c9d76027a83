use Rattle.std.proofs.Common.{◌≡◌, drop, map, take}
use Rattle.xet_blocks.specs.steps.Planning.{finished}
use Rattle.xet_blocks.proofs.reconstruction_terms.plan_blocks.finish_blocks.Given as goal

abbrev pub invariant-loop-block : goal.invariant-loop-block
invariant-loop-block l =
    (take l.block-index l.blocks ≡ map finished (take l.block-index l.initial.blocks))
    × (drop l.block-index l.blocks ≡ drop l.block-index l.initial.blocks)
