use Rattle.std.proofs.Common.{◌≤◌, ◌++◌, List, length, subst, sym}
use Rattle.xet_events.specs.Allowed.{AllowedAfter}
use Rattle.xet_ties.specs.Setup.{most_lanes}
use Rattle.xet_lane.specs.declared.joined.LaneEnd.{LaneEnd}
use Rattle.xet_stages.specs.RoundRecords.{expired_events, fetched_events, lanes_of, window_events}
use Rattle.xet_stages.proofs.RoundRecords.{round_short, round_then, round_unwritten, window_allowed}
use Rattle.xet_stages.proofs.recording.record_round.Goals as goal

pub returns-in-Err : goal.returns-in-Err
returns-in-Err g c =
    round_short c.args.core.now c.record_lanes.new.core c.as_slice.result.now c.args.joined.now.ends.items
    (window_events c.args.joined.now.wrote c.args.lengths.now) c.in-Err.error c.as_slice.ensures.value
    c.in-Err.ensures

pub returns-in-Ok-wrote : goal.returns-in-Ok-wrote
returns-in-Ok-wrote g c =
    round_then c.args.core.now c.record_lanes.new.core c.record_window.new.core c.as_slice.result.now
    c.args.joined.now.ends.items c.args.joined.now.wrote c.in-Ok-wrote.field-0 c.args.lengths.now
    c.record_window.result c.as_slice.ensures.value c.in-Ok-wrote.is c.in-Ok.ensures c.record_window.ensures

pub returns-in-Err-wrote : goal.returns-in-Err-wrote
returns-in-Err-wrote g c =
    round_unwritten c.args.core.now c.record_lanes.new.core c.as_slice.result.now c.args.joined.now.ends.items
    c.args.joined.now.wrote c.in-Err-wrote.field-0 c.args.lengths.now c.as_slice.ensures.value c.in-Err-wrote.is
    c.in-Ok.ensures

pub record_lanes-requires-clause-lanes : goal.record_lanes-requires-clause-lanes
record_lanes-requires-clause-lanes g c =
    subst (λ (es : List LaneEnd). length es ≤ most_lanes) (sym c.as_slice.ensures.value) c.requires.lanes

pub record_lanes-requires-clause-fetched : goal.record_lanes-requires-clause-fetched
record_lanes-requires-clause-fetched g c =
    subst (λ (es : List LaneEnd). AllowedAfter c.args.core.now (fetched_events (lanes_of es)))
    (sym c.as_slice.ensures.value) c.requires.allowed.fetched

pub record_lanes-requires-clause-expired : goal.record_lanes-requires-clause-expired
record_lanes-requires-clause-expired g c =
    subst (λ (es : List LaneEnd). AllowedAfter (c.args.core.now ++ fetched_events (lanes_of es))
    (expired_events (lanes_of es))) (sym c.as_slice.ensures.value) c.requires.allowed.expired

pub record_window-requires : goal.record_window-requires
record_window-requires g c =
    window_allowed c.args.core.now c.record_lanes.new.core c.as_slice.result.now c.args.joined.now.ends.items
    c.args.joined.now.wrote c.in-Ok-wrote.field-0 c.args.lengths.now c.as_slice.ensures.value c.in-Ok-wrote.is
    c.in-Ok.ensures c.requires.allowed
