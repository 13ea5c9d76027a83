use Rattle.xet_ties.specs.Recordings.{expired_on}
use Rattle.xet_stages.proofs.RoundRecords.{lanes_all, lanes_more, lanes_next, lanes_none, lanes_short}
use Rattle.xet_stages.proofs.recording.record_all_expired.Goals as goal

pub record_expired-requires : goal.record_expired-requires
record_expired-requires g c = lanes_next expired_on c.args.ends.now c.loop-end.end-index c.loop-end.lane
    c.end-item.result _ c.args.core.now c.loop-end.core
    c.loop-end-test.true c.end-item.is c.as_slice.ensures.value c.loop-end.invariant

pub returns-in-Err : goal.returns-in-Err
returns-in-Err g c = lanes_short expired_on c.args.ends.now c.loop-end.end-index c.loop-end.lane c.end-item.result _
    c.args.core.now c.loop-end.core _ c.in-Err.error
    c.loop-end-test.true c.end-item.is c.as_slice.ensures.value c.in-Err.ensures c.loop-end.invariant

pub loop-end-preserved : goal.loop-end-preserved
loop-end-preserved g c = lanes_more expired_on c.args.ends.now c.loop-end.end-index c.loop-end.lane c.end-item.result _
    c.args.core.now c.loop-end.core _ c.loop-end-test.true c.end-item.is c.as_slice.ensures.value c.in-Ok.ensures
    c.loop-end.invariant

pub loop-end-init : goal.loop-end-init
loop-end-init g c = lanes_none expired_on c.args.ends.now c.args.core.now c.requires.allowed

pub returns : goal.returns
returns g c = lanes_all expired_on c.args.ends.now c.loop-end.end-index c.loop-end.lane c.args.core.now c.loop-end.core
    c.loop-end-test.false c.loop-end.invariant
