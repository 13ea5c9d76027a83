use Rattle.std.proofs.Common.{◌<◌, arith, length, subst, sym}
use Rattle.xet_blocks.specs.steps.Planning.{IsUnfinished, finished}
use Rattle.xet_blocks.proofs.BlockReferences.{kept_at, mapped_step}
use Rattle.xet_blocks.proofs.reconstruction_terms.plan_blocks.finish_blocks.Goals as goal

pub finish_block-requires : goal.finish_block-requires
finish_block-requires c =
    let i = c.loop-block.block-index in
    let d = c.block-item.result in
    let within : i < length c.loop-block.blocks = omega arith in
    subst IsUnfinished (sym (kept_at c.args.blocks.now c.loop-block.blocks i d c.loop-block.auto.blocks within c.loop-block.invariant.1)) (c.requires i d c.loop-block-test.true)

pub loop-block-preserved : goal.loop-block-preserved
loop-block-preserved c =
    let within : c.loop-block.block-index < length c.loop-block.blocks = omega arith in
    mapped_step finished c.args.blocks.now c.loop-block.blocks c.loop-block.block-index c.block-item.result c.finish_block.new.block c.loop-block.auto.blocks within c.loop-block.invariant c.in_ok-finish_block.ensures
