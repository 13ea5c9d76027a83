use Rattle.xet_leader.proofs.LackedBlocks.{lowest_more}
use Rattle.xet_leader.proofs.missing_blocks.lowest_of.Goals as goal

pub loop-place-preserved : goal.loop-place-preserved
loop-place-preserved c =
    lowest_more c.args.plan c.loop-place.lowest c.lowest_with-lowest.result c.args.places.now c.loop-place.place-index _
    c.loop-place-test.true c.loop-place.invariant c.lowest_with-lowest.ensures
