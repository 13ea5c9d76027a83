use Rattle.std.proofs.Common.{◌∙◌}
use Rattle.xet_offers.proofs.ChunkNumbers.{pushed_range}
use Rattle.xet_offers.proofs.reconstruction_terms.xorb_block.numbered_pairs.Goals as goal

pub loop-range-preserved : goal.loop-range-preserved
loop-range-preserved c =
    pushed_range c.loop-range.pairs.items _ _ c.args.ranges.now c.loop-range.range-index _ c.len.result c.args.offsets.now
    (c.len.ensures ∙ c.loop-range.pairs.ok.0) c.loop-range-test.true c.loop-range.invariant.0 c.in_ok-push_chunks.ensures c.loop-range.invariant.1
