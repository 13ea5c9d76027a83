use Rattle.xet_stream_terms.proofs.HandCalls.{record_may, records_it, records_none, records_short}
use Rattle.xet_stream_terms.proofs.handing.record_given.Goals as goal

pub plan_of-requires : goal.plan_of-requires
plan_of-requires g c = c.requires.next.next

pub returns-then-not-is_kept : goal.returns-then-not-is_kept
returns-then-not-is_kept g c = records_none c.requires.carries.0 _ _ c.requires.carries.1 c.args.next c.requires.next
    c.plan_of.result (c.plan_of.ensures c.requires.next.next) c.is_kept.result c.is_kept.ensures
    c.if-not-is_kept.true

pub add_wrote-requires : goal.add_wrote-requires
add_wrote-requires g c = record_may c.requires.carries.0 _ _ c.requires.carries.1 c.args.next c.requires.next
    c.plan_of.result (c.plan_of.ensures c.requires.next.next) c.is_kept.result c.is_kept.ensures
    c.if-not-is_kept.false c.saturating_sub-length.result c.saturating_sub-length.ensures

pub returns-in-Err : goal.returns-in-Err
returns-in-Err g c = records_short c.requires.carries.0 _ _ c.requires.carries.1 c.args.next c.requires.next
    c.in-Err.error _ c.in-Err.ensures.recorded.memory c.in-Err.ensures.kept

pub returns : goal.returns
returns g c = records_it c.requires.carries.0 _ _ c.requires.carries.1 c.args.next c.requires.next
    c.saturating_sub-length.result c.saturating_sub-length.ensures c.add_wrote.new.core c.in-Ok.ensures.recorded.all
    c.saturating_add.result c.saturating_add.ensures c.advance.new.leader c.advance.ensures
