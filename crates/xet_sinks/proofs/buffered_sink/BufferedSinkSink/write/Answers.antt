use Rattle.std.proofs.Common.{◌≡◌, Err, inl, refl, arith}
use Rattle.std.proofs.Math.Nat.{le_trans}
use Rattle.xet_base.proofs.CallerLemmas.{err-of}
use Rattle.xet_sinks.proofs.WriteCalls.{err_as, or_else, refused, still_runs, unwritten, written_after}
use Rattle.xet_sinks.proofs.buffered_sink.BufferedSinkSink.write.Goals as goal

pub returns-then-self : goal.returns-then-self
returns-then-self g c = record {
  call = refused _ _;
  held = λ f h. cc;
  fault = λ x. cc;
  runs = λ t. inl t;
  stopped = λ _. (refl, refl);
  whole = λ _. tt;
  capacity = omega arith;
}

pub returns-in_err-write_out : goal.returns-in_err-write_out
returns-in_err-write_out g c =
    let e : c.from_residual.result ≡ Err c.in_err-write_out.field-0.0 = err-of _ _ c.from_residual.ensures in
    let w = rw c.in_err-write_out.was at c.write_out.ensures in
    rw e (record {
      call = unwritten _ _ _ _ _ _ _ w.call;
      held = λ f h. absurd (let t = c.if-piece-capacity.true in omega arith);
      fault = λ x. w.fault (err_as _ _ _ x);
      runs = λ t. or_else _ _ _ (err_as _ _ _) (w.runs t);
      stopped = λ t. cc;
      whole = λ _. tt;
      capacity = w.capacity;
    })

pub returns-then-piece-capacity-2 : goal.returns-then-piece-capacity-2
returns-then-piece-capacity-2 g c =
    let w = rw c.in_ok-write_out.was at c.write_out.ensures in
    let p = c.pass.ensures in
    record {
      call = written_after _ _ _ _ _ _ _ _ w.call p.call;
      held = λ f h. absurd (let t = c.if-piece-capacity.true in omega arith);
      fault = p.fault;
      runs = λ t. still_runs _ _ _ w.call.whole (p.runs t);
      stopped = λ t. cc;
      whole = λ l. absurd (let t = c.if-piece-capacity-2.true in let k = w.capacity in omega arith);
      capacity = le_trans w.capacity p.capacity;
    }
