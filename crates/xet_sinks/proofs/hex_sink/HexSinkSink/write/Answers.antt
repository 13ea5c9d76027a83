use Rattle.std.proofs.Common.{◌≡◌, Err}
use Rattle.xet_base.proofs.CallerLemmas.{err-of}
use Rattle.xet_sinks.proofs.MissingDigit.{after_settled, unsettled}
use Rattle.xet_sinks.proofs.WriteCalls.{err_as, or_else, same_err, still_runs}
use Rattle.xet_sinks.proofs.hex_sink.HexSinkSink.write.Goals as goal

pub returns-in_err-settle : goal.returns-in_err-settle
returns-in_err-settle g c =
    let e : c.from_residual.result ≡ Err c.in_err-settle.field-0.0 = err-of _ _ c.from_residual.ensures in
    let w = rw c.in_err-settle.was at c.settle.ensures in
    rw e (record {
      call = unsettled _ _ _ _ _ _ w.call;
      fault = λ x. w.fault (err_as _ _ _ x);
      runs = λ t. or_else _ _ _ (err_as _ _ _) (w.runs t);
      stopped = λ t. let s = w.stopped t in (same_err _ _ _ _ s.0, s.1);
    })

pub returns : goal.returns
returns g c =
    let w = rw c.in_ok-settle.was at c.settle.ensures in
    let p = c.put_all.ensures in
    record {
      call = after_settled _ _ _ _ _ _ _ w.call p.call;
      fault = p.fault;
      runs = λ t. still_runs _ _ _ w.call.whole.1 (p.runs t);
      stopped = λ t. absurd (let s = (w.stopped t).0 in cc);
    }
