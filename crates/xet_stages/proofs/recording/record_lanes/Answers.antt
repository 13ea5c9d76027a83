use Rattle.std.proofs.Common.{List, subst, sym}
use Rattle.xet_events.specs.declared.event.Event.{Event}
use Rattle.xet_events.specs.Allowed.{AllowedAfter}
use Rattle.xet_stages.specs.RoundRecords.{expired_events, fetched_events, lanes_of}
use Rattle.xet_stages.proofs.RoundRecords.{recorded_front, recorded_then}
use Rattle.xet_stages.proofs.recording.record_lanes.Goals as goal

pub returns-in-Ok : goal.returns-in-Ok
returns-in-Ok g c =
    recorded_then c.args.core.now c.record_all_fetched.new.core c.record_all_expired.new.core
    (fetched_events (lanes_of c.args.ends.now)) (expired_events (lanes_of c.args.ends.now))
    c.record_all_expired.result c.in-Ok.ensures c.record_all_expired.ensures

pub returns-in-Err : goal.returns-in-Err
returns-in-Err g c = recorded_front c.args.core.now _ (fetched_events (lanes_of c.args.ends.now))
    (expired_events (lanes_of c.args.ends.now)) c.in-Err.error c.in-Err.ensures

pub record_all_fetched-requires-clause-lanes : goal.record_all_fetched-requires-clause-lanes
record_all_fetched-requires-clause-lanes g c = c.requires.lanes

pub record_all_fetched-requires-clause-allowed : goal.record_all_fetched-requires-clause-allowed
record_all_fetched-requires-clause-allowed g c = c.requires.fetched

pub record_all_expired-requires-clause-lanes : goal.record_all_expired-requires-clause-lanes
record_all_expired-requires-clause-lanes g c = c.requires.lanes

pub record_all_expired-requires-clause-allowed : goal.record_all_expired-requires-clause-allowed
record_all_expired-requires-clause-allowed g c =
    subst (λ (es : List Event). AllowedAfter es (expired_events (lanes_of c.args.ends.now))) (sym c.in-Ok.ensures.all)
    c.requires.expired
