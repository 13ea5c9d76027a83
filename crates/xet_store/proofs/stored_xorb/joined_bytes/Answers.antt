use Rattle.std.proofs.Common.{◌∙◌, ap, take_all}
use Rattle.std.specs.List.{concat}
use Rattle.xet_store.proofs.JoinedChunks.{joined_more}
use Rattle.xet_store.proofs.stored_xorb.joined_bytes.Goals as goal

pub loop-chunk-preserved : goal.loop-chunk-preserved
loop-chunk-preserved c =
    rw (c.in_ok-extend_from_slice.ensures.items, c.as_slice.ensures)
    (joined_more c.args.chunks.now c.loop-chunk.chunk-index c.chunk-item.result c.loop-chunk-test.true c.chunk-item.is _
    c.loop-chunk.invariant)

pub returns : goal.returns
returns c =
    c.in_ok-from_vec.ensures.ok ∙ c.loop-chunk.invariant
    ∙ ap concat (take_all c.loop-chunk.chunk-index c.args.chunks.now c.loop-chunk-test.false)
