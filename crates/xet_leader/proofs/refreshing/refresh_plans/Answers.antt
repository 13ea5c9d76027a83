use Rattle.xet_leader.proofs.Refreshed.{so_all, so_allowed, so_more, so_none, so_short}
use Rattle.xet_leader.proofs.refreshing.refresh_plans.Goals as goal

pub loop-number-init : goal.loop-number-init
loop-number-init g c = so_none c.args.multirange c.args.stale.now _ c.requires.running c.requires.stale

pub refresh_one-requires : goal.refresh_one-requires
refresh_one-requires g c = so_allowed c.args.multirange c.args.stale.now c.loop-number.number-index 0 _ _
    c.loop-number-test.true c.loop-number.invariant

pub loop-number-preserved : goal.loop-number-preserved
loop-number-preserved g c = so_more c.args.multirange c.args.stale.now c.loop-number.number-index 0 _ _ _
    c.loop-number-test.true c.in-Ok.ensures c.loop-number.invariant

pub returns-in-Err : goal.returns-in-Err
returns-in-Err g c = so_short c.args.multirange c.args.stale.now c.loop-number.number-index 0 _ _ _ c.in-Err.error
    c.loop-number-test.true c.in-Err.ensures c.loop-number.invariant

pub returns : goal.returns
returns g c = so_all c.args.multirange c.args.stale.now c.loop-number.number-index _ _ c.loop-number-test.false
    c.loop-number.invariant
