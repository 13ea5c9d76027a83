use Rattle.std.proofs.Common.{◌≡◌, ◌-◌, ◌^◌, map, take}
use Rattle.std.specs.Prelude.{min}
use Rattle.xet_offers.specs.Blocks.{transfer_sum}
use Rattle.xet_blocks.specs.steps.Planning.{plan_block}
use Rattle.xet_blocks.proofs.reconstruction_terms.plan_blocks.PlanBlocks.transfer_bytes.Given as goal

abbrev pub invariant-loop-block : goal.invariant-loop-block
invariant-loop-block l = l.sum ≡ min (transfer_sum (map plan_block (take l.block-index l.block-items))) (2 ^ 64 - 1)
