use Rattle.std.proofs.Common.{◌-◌, arith}
use Rattle.xet_offers.proofs.ChunkNumbers.{pushed_more, pushed_all}
use Rattle.xet_offers.proofs.reconstruction_terms.xorb_block.push_chunks.Goals as goal

pub loop-index-preserved : goal.loop-index-preserved
loop-index-preserved c =
    let room = c.loop-index.invariant.0 in (
      omega (
        arith,
        room,
        c.loop-index-test.true,
        c.push_reserved.ensures.len,
        c.push_reserved.ensures.capacity,
      ),
      pushed_more c.loop-index.pairs.items _ _ c.args.range.start (c.args.range.end - c.args.range.start)
          c.loop-index.index c.min.result c.args.offsets.now (cc) c.loop-index-test.true c.push_reserved.ensures.items
          c.loop-index.invariant.1,
    )

pub returns : goal.returns
returns c =
    pushed_all c.loop-index.pairs.items _ c.args.range.start (c.args.range.end - c.args.range.start) c.loop-index.index c.min.result c.args.offsets.now
    (cc) c.loop-index-test.false c.loop-index.invariant.1
