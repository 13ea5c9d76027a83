use Rattle.std.proofs.Common.{None, get_or}
use Rattle.xet_audit.proofs.Hashing.{fed_none, feed_all, feed_next, feed_stops}
use Rattle.xet_audit.proofs.Lists.{self_at}
use Rattle.xet_audit.proofs.records.feed.Goals as goal

pub loop-record-init : goal.loop-record-init
loop-record-init c = λ cs are. fed_none c.args.hasher.now

pub loop-record-preserved : goal.loop-record-preserved
loop-record-preserved c = λ cs are.
    let l = c.loop-record in
    feed_next c.args.records.now cs are l.record-index c.args.hasher.now l.hasher c.update.new.self c.update-in-loop-record.new.self c.in-Some.info (get_or c.args.records.now l.record-index None)
    c.loop-record-test.true (self_at c.args.records.now l.record-index None c.loop-record-test.true) c.in-Some.is (l.invariant cs are) (λ m h. rw c.as_slice.ensures at (c.update.ensures m h))
    (λ m h. rw (c.as_slice-in-loop-record.ensures, c.to_be_bytes.ensures) at (c.update-in-loop-record.ensures m h))

pub returns-in_default : goal.returns-in_default
returns-in_default c = λ cs are. feed_stops c.args.records.now cs are c.loop-record.record-index (get_or c.args.records.now c.loop-record.record-index None) c.loop-record-test.true
    (self_at c.args.records.now c.loop-record.record-index None c.loop-record-test.true) c.in_default.is

pub returns : goal.returns
returns c = λ cs are. feed_all c.args.records.now cs are c.loop-record.record-index c.args.hasher.now c.loop-record.hasher c.loop-record-test.false (c.loop-record.invariant cs are)
