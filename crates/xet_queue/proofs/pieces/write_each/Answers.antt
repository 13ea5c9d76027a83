use Rattle.std.proofs.Common.{rules, ◌≡◌, ◌<◌, ◌≤◌, length, take, arith, get_or, None, Some}
use Rattle.std.specs.List.{concat}
use Rattle.xet_outside.proofs.CallerLemmas.{took_both}
use Rattle.xet_outside.specs.Told.{Took}
use Rattle.xet_queue.specs.Queues.{ready}
use Rattle.xet_queue.proofs.Each.{next_of, none_next}
use Rattle.xet_queue.proofs.Joined.{before_next, each_all, each_err, one_below, one_more}
use Rattle.xet_queue.proofs.Terms.{ready_past}
use Rattle.xet_queue.proofs.pieces.write_each.Goals as goal

pub returns-in_default : goal.returns-in_default
returns-in_default g c =
    let i = c.loop-i.invariant in
    let ts = c.args.queue.now.items in
    let t = c.index.result.now in
    let h : c.loop-i.i < length ts = search rules in
    let e : t ≡ get_or ts c.loop-i.i t = search rules in
    let f : t.bytes ≡ None = search rules in
    each_all 1 (g.S.Sink.told c.args.sink.now) (g.S.Sink.told c.loop-i.sink) (ready ts) c.loop-i.i c.loop-i.count (none_next ts c.loop-i.i t h e f i.rest) i.count i.took i.flushed i.link i.faults

pub overflow_add-count : goal.overflow_add-count
overflow_add-count g c =
    let i = c.loop-i.invariant in
    let ts = c.args.queue.now.items in
    let t = c.index.result.now in
    let p = c.in-Some.bytes in
    let h : c.loop-i.i < length ts = search rules in
    let e : t ≡ get_or ts c.loop-i.i t = search rules in
    let f : t.bytes ≡ Some p = search rules in
    let x = next_of ts c.loop-i.i t p h e f i.rest in
    let b = one_below (ready ts) c.loop-i.i p x.below x.there in
    let n = c.len.ensures.value in
    let k = i.count in
    omega (arith, c.requires)

pub returns-in-Err : goal.returns-in-Err
returns-in-Err g c =
    let i = c.loop-i.invariant in
    let ts = c.args.queue.now.items in
    let t = c.index.result.now in
    let p = c.in-Some.bytes in
    let h : c.loop-i.i < length ts = search rules in
    let e : t ≡ get_or ts c.loop-i.i t = search rules in
    let f : t.bytes ≡ Some p = search rules in
    let x = next_of ts c.loop-i.i t p h e f i.rest in
    each_err (g.S.Sink.told c.args.sink.now) (g.S.Sink.told c.loop-i.sink) (g.S.Sink.told c.write_piece.new.sink) (ready ts) c.loop-i.i c.loop-i.count p c.in-Err.error x.below x.there_none i.count i.took i.flushed i.link i.faults (rw (c.in-Err.is, c.as_slice.ensures) at c.write_piece.ensures)

pub loop-i-preserved : goal.loop-i-preserved
loop-i-preserved g c =
    let i = c.loop-i.invariant in
    let ts = c.args.queue.now.items in
    let t = c.index.result.now in
    let p = c.in-Some.bytes in
    let h : c.loop-i.i < length ts = search rules in
    let e : t ≡ get_or ts c.loop-i.i t = search rules in
    let f : t.bytes ≡ Some p = search rules in
    let x = next_of ts c.loop-i.i t p h e f i.rest in
    let b = before_next (ready ts) c.loop-i.i p x.below x.there in
    let n : c.len.result ≡ length p = c.len.ensures.value in
    let k = i.count in
    let w : Took (g.S.Sink.told c.loop-i.sink).took (g.S.Sink.told c.write_piece.new.sink).took p = search rules in
    record {
      rest = x.rest;
      count = omega arith;
      took = rw (one_more (ready ts) c.loop-i.i p x.below x.there) (took_both (g.S.Sink.told c.args.sink.now).took (g.S.Sink.told c.loop-i.sink).took (g.S.Sink.told c.write_piece.new.sink).took (concat (take c.loop-i.i (ready ts))) p i.took w);
      flushed = search rules;
      link = search rules;
      faults = search rules;
    }

pub returns : goal.returns
returns g c =
    let i = c.loop-i.invariant in
    let ts = c.args.queue.now.items in
    let h : length ts ≤ c.loop-i.i = search rules in
    each_all 1 (g.S.Sink.told c.args.sink.now) (g.S.Sink.told c.loop-i.sink) (ready ts) c.loop-i.i c.loop-i.count (ready_past ts c.loop-i.i h) i.count i.took i.flushed i.link i.faults
