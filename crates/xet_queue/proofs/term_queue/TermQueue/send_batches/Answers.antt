use Rattle.std.proofs.Common.{rules, ◌≡◌, ◌^◌, ◌<◌, ◌∙◌, ap, length, arith, length-drop}
use Rattle.xet_queue.proofs.Sending.{sent_end, sent_err, sent_more, sent_none, sent_room, sent_short, sent_stop}
use Rattle.xet_queue.proofs.Terms.{ready_past, ready_within}
use Rattle.xet_queue.proofs.term_queue.TermQueue.send_batches.Goals as goal

pub loop-self-init : goal.loop-self-init
loop-self-init g c = record { sent = sent_none g.S.Sink.told c.args.self.now; pieces = c.requires.empty; capacity = search rules }

pub write_batch-terms-requires-clause-short : goal.write_batch-terms-requires-clause-short
write_batch-terms-requires-clause-short g c = sent_short g.S.Sink.told c.args.self.now c.loop-self.self c.loop-self.count _ c.loop-self.invariant.sent c.requires.short

pub overflow_add-count : goal.overflow_add-count
overflow_add-count g c =
    let z = sent_room g.S.Sink.told c.args.self.now c.loop-self.self c.write_batch-terms.new.self c.loop-self.count c.write_batch-terms.result.terms c.write_batch-terms.result.sent.count (2 ^ 64) c.write_batch-terms.result.sent.end c.loop-self.invariant.sent c.write_batch-terms.ensures.call c.requires.short in
    omega arith

pub returns-in-Err : goal.returns-in-Err
returns-in-Err g c = sent_err g.S.Sink.told c.args.self.now c.loop-self.self c.write_batch-terms.new.self c.loop-self.count c.write_batch-terms.result.terms c.write_batch-terms.result.sent.count c.in-Err.error c.loop-self.invariant.sent (rw c.in-Err.is at c.write_batch-terms.ensures.call)

pub loop-self-preserved : goal.loop-self-preserved
loop-self-preserved g c = record {
  sent = sent_more g.S.Sink.told c.args.self.now c.loop-self.self c.write_batch-terms.new.self c.loop-self.count c.write_batch-terms.result.terms c.write_batch-terms.result.sent.count c.loop-self.invariant.sent (rw c.in_default.is at c.write_batch-terms.ensures.call);
  pieces = c.write_batch-terms.ensures.pieces;
  capacity = c.write_batch-terms.ensures.capacity ∙ c.loop-self.invariant.capacity;
}

pub loop-self-smaller : goal.loop-self-smaller
loop-self-smaller g c =
    let w = rw c.in_default.is at c.write_batch-terms.ensures.call in
    let q = ap length w.done.queue in
    let d = length-drop c.write_batch-terms.result.terms c.loop-self.self.queue in
    let r = ready_within c.loop-self.self.queue in
    let h = w.within in
    let n : 0 < c.write_batch-terms.result.terms = search (rules, arith) in
    omega arith

pub returns-then-terms-eq0 : goal.returns-then-terms-eq0
returns-then-terms-eq0 g c =
    let e : c.write_batch-terms.result.terms ≡ 0 = search rules in
    sent_stop g.S.Sink.told c.args.self.now c.loop-self.self c.write_batch-terms.new.self c.loop-self.count c.write_batch-terms.result.terms c.write_batch-terms.result.sent.count c.loop-self.invariant.sent (rw c.in_default.is at c.write_batch-terms.ensures.call) e

pub returns : goal.returns
returns g c =
    let h : length c.loop-self.self.queue ≡ 0 = search rules in
    sent_end g.S.Sink.told c.args.self.now c.loop-self.self c.loop-self.count c.loop-self.invariant.sent (ready_past c.loop-self.self.queue 0 (omega arith))
