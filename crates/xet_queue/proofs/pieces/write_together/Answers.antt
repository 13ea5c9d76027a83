use Rattle.std.proofs.Common.{◌≡◌, ◌<◌, ◌≤◌, length, take, arith, ◌∙◌}
use Rattle.xet_outside.specs.Told.{Took}
use Rattle.xet_queue.proofs.Joined.{handed, handed_err, handed_rest, handed_some, handed_took, handed_within}
use Rattle.xet_queue.proofs.pieces.write_together.Goals as goal

pub overflow_add-count : goal.overflow_add-count
overflow_add-count g c =
    let i = c.loop-place.invariant in
    let ps = c.args.pieces.now in
    let h : c.loop-place.place.piece < length ps = rw i.pieces at c.loop-place-test.true in
    let k : c.in-Ok.taken ≤ length (handed ps c.loop-place.place.piece c.loop-place.place.taken) = rw i.pieces at c.in-Ok.ensures.call.count in
    let w = handed_within ps c.loop-place.place.piece c.loop-place.place.taken h (i.inside h) in
    let n = i.place in
    omega (arith, c.requires)

pub overflow_add-place : goal.overflow_add-place
overflow_add-place g c =
    let i = c.loop-place.invariant in
    let ps = c.args.pieces.now in
    let h : c.loop-place.place.piece < length ps = rw i.pieces at c.loop-place-test.true in
    let k : c.in-Ok.taken ≤ length (handed ps c.loop-place.place.piece c.loop-place.place.taken) = rw i.pieces at c.in-Ok.ensures.call.count in
    let w = handed_within ps c.loop-place.place.piece c.loop-place.place.taken h (i.inside h) in
    omega (arith, c.requires)

pub pass-place-requires-in-Ok-clause-short : goal.pass-place-requires-in-Ok-clause-short
pass-place-requires-in-Ok-clause-short g c =
    let i = c.loop-place.invariant in
    let ps = c.args.pieces.now in
    let h : c.loop-place.place.piece < length ps = rw i.pieces at c.loop-place-test.true in
    let k : c.in-Ok.taken ≤ length (handed ps c.loop-place.place.piece c.loop-place.place.taken) = rw i.pieces at c.in-Ok.ensures.call.count in
    let e : c.write_rest.new.pieces ≡ ps = c.in-Ok.ensures.pieces ∙ i.pieces in
    rw e (handed_rest ps c.loop-place.place.piece c.loop-place.place.taken c.in-Ok.taken h (i.inside h) k)

pub loop-place-smaller : goal.loop-place-smaller
loop-place-smaller g c =
    let i = c.loop-place.invariant in
    let ps = c.args.pieces.now in
    let h : c.loop-place.place.piece < length ps = rw i.pieces at c.loop-place-test.true in
    let k : c.in-Ok.taken ≤ length (handed ps c.loop-place.place.piece c.loop-place.place.taken) = rw i.pieces at c.in-Ok.ensures.call.count in
    let some : 0 < length (handed ps c.loop-place.place.piece c.loop-place.place.taken) → 0 < c.in-Ok.taken = rw i.pieces at c.in-Ok.ensures.call.some in
    let z = some (handed_some ps c.loop-place.place.piece c.loop-place.place.taken h (i.inside h)) in
    let w = handed_within ps c.loop-place.place.piece c.loop-place.place.taken h (i.inside h) in
    let n = i.place in
    omega arith

pub loop-place-preserved : goal.loop-place-preserved
loop-place-preserved g c =
    let i = c.loop-place.invariant in
    let ps = c.args.pieces.now in
    let at = c.loop-place.place.piece in
    let off = c.loop-place.place.taken in
    let h : at < length ps = rw i.pieces at c.loop-place-test.true in
    let k : c.in-Ok.taken ≤ length (handed ps at off) = rw i.pieces at c.in-Ok.ensures.call.count in
    let t : Took (g.S.Sink.told c.loop-place.sink).took (g.S.Sink.told c.write_rest.new.sink).took (take c.in-Ok.taken (handed ps at off)) = rw i.pieces at c.in-Ok.ensures.call.took in
    let e : c.write_rest.new.pieces ≡ ps = c.in-Ok.ensures.pieces ∙ i.pieces in
    let q = c.pass-place-in-Ok.ensures in
    let place = rw e at q.place in
    let w = handed_within ps at off h (i.inside h) in
    let n = i.place in
    record {
      pieces = e;
      within = rw e at q.within;
      place = omega arith;
      inside = rw e at q.inside;
      count = omega arith;
      took = handed_took (g.S.Sink.told c.args.sink.now).took (g.S.Sink.told c.loop-place.sink).took (g.S.Sink.told c.write_rest.new.sink).took ps at off c.loop-place.count c.in-Ok.taken n h (i.inside h) k i.took t;
      flushed = c.in-Ok.ensures.call.flushed ∙ i.flushed;
      link = c.in-Ok.ensures.call.link ∙ i.link;
      faults = c.in-Ok.ensures.call.unfailed ∙ i.faults;
    }

pub returns-in-Err-clause-sent : goal.returns-in-Err-clause-sent
returns-in-Err-clause-sent g c =
    let i = c.loop-place.invariant in
    let ps = c.args.pieces.now in
    let h : c.loop-place.place.piece < length ps = rw i.pieces at c.loop-place-test.true in
    handed_err (g.S.Sink.told c.args.sink.now) (g.S.Sink.told c.loop-place.sink) (g.S.Sink.told c.write_rest.new.sink) ps c.loop-place.place.piece c.loop-place.place.taken c.loop-place.count c.in-Err.error i.place h (i.inside h) i.took i.flushed i.link i.faults (rw i.pieces at c.in-Err.ensures.call)
