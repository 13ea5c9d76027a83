use Rattle.std.proofs.Common.{ap}
use Rattle.xet_leader.specs.Listings.{Listing}
use Rattle.xet_leader.proofs.LackedBlocks.{once_more}
use Rattle.xet_leader.proofs.missing_blocks.each_once.Goals as goal

pub loop-place-preserved : goal.loop-place-preserved
loop-place-preserved c =
    once_more c.loop-place.found.places c.add.new.self.places c.args.places.now c.loop-place.place-index _
    c.loop-place-test.true c.loop-place.invariant (ap (λ (l : Listing). l.places) c.in_ok-add.ensures.ok)
