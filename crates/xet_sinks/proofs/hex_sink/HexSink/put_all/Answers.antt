use Rattle.std.proofs.Common.{rules, ◌<◌, ◌∙◌, arith, length, inl}
use Rattle.xet_outside.specs.Told.{SinkTold}
use Rattle.xet_sinks.specs.HexText.{hex_told}
use Rattle.xet_sinks.proofs.StillRuns.{not_failed_ok, not_failed_memory}
use Rattle.xet_sinks.proofs.WholePiece.{put_part, put_more, put_none, put_short, put_whole, put_within, put_failed}
use Rattle.xet_sinks.proofs.hex_sink.HexSink.put_all.Goals as goal

pub returns-then-taken-end-clause-call : goal.returns-then-taken-end-clause-call
returns-then-taken-end-clause-call g c =
    let told = g.O.Sink.told in
    let s = c.args.self.now in
    let m = c.loop-taken.self in
    let n = c.put.new.self in
    let a : SinkTold = hex_told (told s.start.value) (told s.known.value) (told s.inner) s.digits in
    let b : SinkTold = hex_told (told m.start.value) (told m.known.value) (told m.inner) m.digits in
    let d : SinkTold = hex_told (told n.start.value) (told n.known.value) (told n.inner) n.digits in
    let i = c.loop-taken.invariant in
    let l : c.loop-taken.taken < length c.args.piece.now = search rules in
    let e = c.min.ensures in
    put_part a b d c.args.piece.now c.loop-taken.taken _ c.in-Ok.count l (omega (arith, e, l)) i.took i.flushed i.link
    i.faults (rw c.in-Ok.is at c.put.ensures.call)

pub loop-taken-preserved : goal.loop-taken-preserved
loop-taken-preserved g c =
    let told = g.O.Sink.told in
    let s = c.args.self.now in
    let m = c.loop-taken.self in
    let n = c.put.new.self in
    let a : SinkTold = hex_told (told s.start.value) (told s.known.value) (told s.inner) s.digits in
    let b : SinkTold = hex_told (told m.start.value) (told m.known.value) (told m.inner) m.digits in
    let d : SinkTold = hex_told (told n.start.value) (told n.known.value) (told n.inner) n.digits in
    let i = c.loop-taken.invariant in
    let h = rw c.in-Ok.is at c.put.ensures.call in
    record {
      in_range = put_within c.args.piece.now c.loop-taken.taken _ c.in-Ok.count i.in_range h.count;
      took = put_more a.took b.took d.took c.args.piece.now c.loop-taken.taken _ c.in-Ok.count h.count i.took h.took;
      flushed = h.flushed ∙ i.flushed;
      link = h.link ∙ i.link;
      faults = h.unfailed ∙ i.faults;
      runs = λ h. i.runs (not_failed_ok _ _ c.in-Ok.count (rw c.in-Ok.is at c.put.ensures.runs) h);
    }

pub returns-in-Err-Failed-clause-call : goal.returns-in-Err-Failed-clause-call
returns-in-Err-Failed-clause-call g c =
    let told = g.O.Sink.told in
    let s = c.args.self.now in
    let m = c.loop-taken.self in
    let n = c.put.new.self in
    let a : SinkTold = hex_told (told s.start.value) (told s.known.value) (told s.inner) s.digits in
    let b : SinkTold = hex_told (told m.start.value) (told m.known.value) (told m.inner) m.digits in
    let d : SinkTold = hex_told (told n.start.value) (told n.known.value) (told n.inner) n.digits in
    let i = c.loop-taken.invariant in
    let l : c.loop-taken.taken < length c.args.piece.now = search rules in
    put_failed a b d c.args.piece.now c.loop-taken.taken _ l i.took i.flushed i.link i.faults
    (rw c.in-Err-Failed.field-0-is at (rw c.in-Err-Failed.is at c.put.ensures.call))

pub returns-then-taken-end-clause-runs : goal.returns-then-taken-end-clause-runs
returns-then-taken-end-clause-runs g c =
    λ h. inl (c.loop-taken.invariant.runs (not_failed_ok _ _ c.in-Ok.count (rw c.in-Ok.is at c.put.ensures.runs) h))

pub returns-then-taken-eq0-clause-runs : goal.returns-then-taken-eq0-clause-runs
returns-then-taken-eq0-clause-runs g c =
    let r = rw c.in-Err-OutOfMemory.field-0-is at (rw c.in-Err-OutOfMemory.is at c.put.ensures.runs) in
    λ h. inl (c.loop-taken.invariant.runs (not_failed_memory _ _ r h))

pub returns-in-Err-OutOfMemory-clause-runs : goal.returns-in-Err-OutOfMemory-clause-runs
returns-in-Err-OutOfMemory-clause-runs g c =
    let r = rw c.in-Err-OutOfMemory.field-0-is at (rw c.in-Err-OutOfMemory.is at c.put.ensures.runs) in
    λ h. inl (c.loop-taken.invariant.runs (not_failed_memory _ _ r h))

pub returns-clause-runs : goal.returns-clause-runs
returns-clause-runs g c = λ h. inl (c.loop-taken.invariant.runs h)

pub returns-then-taken-end-clause-fault : goal.returns-then-taken-end-clause-fault
returns-then-taken-end-clause-fault g c = λ x. cc

pub returns-then-taken-eq0-clause-call : goal.returns-then-taken-eq0-clause-call
returns-then-taken-eq0-clause-call g c =
    let told = g.O.Sink.told in
    let s = c.args.self.now in
    let m = c.loop-taken.self in
    let n = c.put.new.self in
    let a : SinkTold = hex_told (told s.start.value) (told s.known.value) (told s.inner) s.digits in
    let b : SinkTold = hex_told (told m.start.value) (told m.known.value) (told m.inner) m.digits in
    let d : SinkTold = hex_told (told n.start.value) (told n.known.value) (told n.inner) n.digits in
    let i = c.loop-taken.invariant in
    let h = rw c.in-Err-OutOfMemory.field-0-is at (rw c.in-Err-OutOfMemory.is at c.put.ensures.call) in
    put_none a b d c.args.piece.now c.loop-taken.taken _ c.if-taken-eq0.true i.took i.flushed i.link i.faults h

pub returns-then-taken-eq0-clause-fault : goal.returns-then-taken-eq0-clause-fault
returns-then-taken-eq0-clause-fault g c = λ x. cc

pub returns-in-Err-OutOfMemory-clause-call : goal.returns-in-Err-OutOfMemory-clause-call
returns-in-Err-OutOfMemory-clause-call g c =
    let told = g.O.Sink.told in
    let s = c.args.self.now in
    let m = c.loop-taken.self in
    let n = c.put.new.self in
    let a : SinkTold = hex_told (told s.start.value) (told s.known.value) (told s.inner) s.digits in
    let b : SinkTold = hex_told (told m.start.value) (told m.known.value) (told m.inner) m.digits in
    let d : SinkTold = hex_told (told n.start.value) (told n.known.value) (told n.inner) n.digits in
    let i = c.loop-taken.invariant in
    let h = rw c.in-Err-OutOfMemory.field-0-is at (rw c.in-Err-OutOfMemory.is at c.put.ensures.call) in
    put_short a b d c.args.piece.now c.loop-taken.taken _ i.in_range c.if-taken-eq0.false i.took i.flushed i.link
    i.faults h

pub returns-in-Err-OutOfMemory-clause-fault : goal.returns-in-Err-OutOfMemory-clause-fault
returns-in-Err-OutOfMemory-clause-fault g c = λ x. cc

pub returns-clause-call : goal.returns-clause-call
returns-clause-call g c =
    let told = g.O.Sink.told in
    let s = c.args.self.now in
    let m = c.loop-taken.self in
    let a : SinkTold = hex_told (told s.start.value) (told s.known.value) (told s.inner) s.digits in
    let b : SinkTold = hex_told (told m.start.value) (told m.known.value) (told m.inner) m.digits in
    let i = c.loop-taken.invariant in
    put_whole a b c.args.piece.now c.loop-taken.taken i.in_range c.loop-taken-test.false i.took i.flushed i.link
    i.faults

pub returns-clause-fault : goal.returns-clause-fault
returns-clause-fault g c = λ x. cc
