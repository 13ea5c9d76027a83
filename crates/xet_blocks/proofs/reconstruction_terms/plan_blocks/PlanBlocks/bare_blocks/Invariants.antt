use Rattle.std.proofs.Common.{◌≡◌, [], take}
use Rattle.xet_blocks.specs.steps.Planning.{unsorted_blocks}
use Rattle.xet_blocks.proofs.reconstruction_terms.plan_blocks.PlanBlocks.bare_blocks.Given as goal

abbrev pub invariant-loop-number : goal.invariant-loop-number
invariant-loop-number l = l.made.items ≡ unsorted_blocks [] (take l.number l.block-items)
