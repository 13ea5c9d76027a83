use Rattle.std.proofs.Common.{◌++◌, ◌∷◌, [], ◌∙◌, None, ap, sym, take}
use Rattle.xet_blocks.specs.declared.reconstruction_terms.block_list.OfferedBlock.{OfferedBlock}
use Rattle.xet_blocks.specs.steps.Planning.{plan_block, unsorted_block, unsorted_blocks}
use Rattle.xet_blocks.proofs.BlockWalk.{numbered-push}
use Rattle.xet_blocks.proofs.reconstruction_terms.plan_blocks.PlanBlocks.bare_blocks.Goals as goal

pub loop-number-preserved : goal.loop-number-preserved
loop-number-preserved c =
    let items = c.as_slice-block-items.result.now in
    let number = c.loop-number.number in
    let block = c.block-item.result in
    let done = c.loop-number.invariant in
    let chunks = c.in_ok-chunks_of.ensures in
    let none = c.new.ensures in
    c.in_ok-push.ensures.items
    ∙ (λ i. done i ++ record {
      xorb_hash = block.xorb.now;
      chunk_ranges = chunks i;
      xorb_block_index = number;
      references = none i;
      uncompressed_size_if_known = None;
      kept = None;
    } ∷ [])
    ∙ ap (λ (b : OfferedBlock). unsorted_blocks [] (take number items) ++ unsorted_block [] (number, plan_block b) ∷ []) c.block-item.is
    ∙ sym (numbered-push (unsorted_block []) items number block c.loop-number-test.true)
