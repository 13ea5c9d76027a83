use Rattle.std.proofs.Common.{◌≡◌, take}
use Rattle.xet_blocks.specs.steps.Planning.{unsorted_blocks, with_starts}
use Rattle.xet_blocks.proofs.reconstruction_terms.plan_blocks.PlanBlocks.add_references.Given as goal

abbrev pub invariant-loop-number : goal.invariant-loop-number
invariant-loop-number l = l.blocks ≡ unsorted_blocks (with_starts (take l.number l.term-items) l.starts) l.self.blocks
