use Rattle.std.proofs.Common.{◌≡◌, Err}
use Rattle.xet_base.proofs.CallerLemmas.{err-of}
use Rattle.xet_sinks.proofs.WriteCalls.{unwritten_flush}
use Rattle.xet_sinks.proofs.buffered_sink.BufferedSinkSink.flush.Goals as goal

pub returns-in_err-write_out : goal.returns-in_err-write_out
returns-in_err-write_out g c =
    let e : c.from_residual.result ≡ Err c.in_err-write_out.field-0.0 = err-of _ _ c.from_residual.ensures in
    let w = rw c.in_err-write_out.was at c.write_out.ensures in
    rw e (record {
      call = unwritten_flush _ _ _ _ _ _ w.call;
      below = tt;
      fault = w.fault;
      runs = w.runs;
      stopped = w.stopped;
      capacity = w.capacity;
    })
