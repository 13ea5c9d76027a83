use Rattle.std.proofs.Common.{refl}
use Rattle.xet_leader.proofs.Offered.{offered_all, offered_more, offered_short}
use Rattle.xet_leader.proofs.offering.offer_blocks.Goals as goal

pub loop-place-init : goal.loop-place-init
loop-place-init g c = refl

pub loop-place-preserved : goal.loop-place-preserved
loop-place-preserved g c = offered_more c.args.plans.now.items c.args.places.now c.loop-place.place-index _ _ _ _
    c.loop-place-test.true c.in-Ok.ensures c.loop-place.invariant

pub returns-in-Err : goal.returns-in-Err
returns-in-Err g c = offered_short c.args.plans.now.items c.args.places.now c.loop-place.place-index _ _ _ _
    c.in-Err.error c.loop-place-test.true c.in-Err.ensures c.loop-place.invariant

pub returns : goal.returns
returns g c = offered_all c.args.plans.now.items c.args.places.now c.loop-place.place-index _ _
    c.loop-place-test.false c.loop-place.invariant
