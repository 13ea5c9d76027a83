use Rattle.std.proofs.Common.{◌≡◌, Err}
use Rattle.xet_base.proofs.CallerLemmas.{err-of}
use Rattle.xet_outside.specs.Told.{SinkTold}
use Rattle.xet_sinks.specs.HexText.{hex_told}
use Rattle.xet_sinks.proofs.MissingDigit.{unsettled_flush}
use Rattle.xet_sinks.proofs.WholePiece.{flush_call, flush_text}
use Rattle.xet_sinks.proofs.hex_sink.HexSinkSink.flush.Goals as goal

pub returns-in_err-settle : goal.returns-in_err-settle
returns-in_err-settle g c =
    let e : c.from_residual.result ≡ Err c.in_err-settle.field-0.0 = err-of _ _ c.from_residual.ensures in
    let w = rw c.in_err-settle.was at c.settle.ensures in
    rw e (record {
      call = unsettled_flush _ _ _ _ _ w.call;
      text = tt;
      fault = w.fault;
      runs = w.runs;
      stopped = w.stopped;
    })

pub returns-clause-call : goal.returns-clause-call
returns-clause-call g c =
    let told = g.O.Sink.told in
    let s = c.args.self.now in
    let n = c.settle.new.self in
    let a : SinkTold = hex_told (told s.start.value) (told s.known.value) (told s.inner) s.digits in
    flush_call a (told n.start.value) (told n.known.value) (told n.inner) (told c.flush-answer.new.self) n.digits n.at
    n.stopped c.flush-answer.result (rw c.in_ok-settle.was at c.settle.ensures.call) n.stands c.flush-answer.ensures

pub returns-clause-text : goal.returns-clause-text
returns-clause-text g c =
    let told = g.O.Sink.told in
    let s = c.args.self.now in
    let n = c.settle.new.self in
    let a : SinkTold = hex_told (told s.start.value) (told s.known.value) (told s.inner) s.digits in
    flush_text a (told n.start.value) (told n.known.value) (told n.inner) (told c.flush-answer.new.self) n.digits n.at
    n.stopped c.flush-answer.result (rw c.in_ok-settle.was at c.settle.ensures.call) n.stands c.flush-answer.ensures
