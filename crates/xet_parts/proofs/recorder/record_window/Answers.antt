use Rattle.xet_ties.specs.Recordings.{wrote_event}
use Rattle.xet_ties.proofs.CallerLemmas.{so_all, so_more, so_next, so_none, so_short}
use Rattle.xet_parts.proofs.recorder.record_window.Goals as goal

pub loop-length-init : goal.loop-length-init
loop-length-init g c = so_none wrote_event c.args.lengths.now c.args.core.now c.requires

pub record_written-requires : goal.record_written-requires
record_written-requires g c = so_next wrote_event c.args.lengths.now c.loop-length.length-index 0 c.args.core.now
    c.loop-length.core c.loop-length-test.true c.loop-length.invariant

pub loop-length-preserved : goal.loop-length-preserved
loop-length-preserved g c = so_more wrote_event c.args.lengths.now c.loop-length.length-index 0 c.args.core.now
    c.loop-length.core c.record_written.new.core c.loop-length-test.true c.in-Ok.ensures.all c.loop-length.invariant

pub returns-in-Err : goal.returns-in-Err
returns-in-Err g c = so_short wrote_event c.args.lengths.now c.loop-length.length-index 0 c.args.core.now
    c.loop-length.core _ c.in-Err.error c.loop-length-test.true c.in-Err.ensures c.loop-length.invariant

pub returns : goal.returns
returns g c = so_all wrote_event c.args.lengths.now c.loop-length.length-index c.args.core.now c.loop-length.core
    c.loop-length-test.false c.loop-length.invariant
