use Rattle.xet_lane.proofs.CallerLemmas.{asks_more, own_request}
use Rattle.xet_lanes_tests.proofs.rounds.fetches.Goals as goal

pub loop-number-preserved : goal.loop-number-preserved
loop-number-preserved c =
    let own = own_request c.args.block.now c.args.urls.now in
    record { all = asks_more _ _ _ c.in_ok-push.ensures.items c.loop-number.invariant.all own }
