use Rattle.std.proofs.Common.{inl, inr, refl, arith}
use Rattle.xet_outside.proofs.CallerLemmas.{rest_is}
use Rattle.xet_sinks.proofs.Buffered.{held_failed, held_part}
use Rattle.xet_sinks.proofs.WriteCalls.{out_stopped}
use Rattle.xet_sinks.proofs.buffered_sink.BufferedSink.write_out.Goals as goal

pub invariant_of-self-in-Memory : goal.invariant_of-self-in-Memory
invariant_of-self-in-Memory g c =
    let told = g.O.Sink.told in
    let s = c.args.self.now in
    let f = c.if-self.false in
    let p = rw (rest_is, c.deref.ensures.value) at (rw c.in-Memory.is at c.push.ensures.took) in
    record {
      stands = rw f (held_part (told s.known.value).took (told s.inner).took (told c.push.new.sink).took
          s.buffer.items s.out c.in-Memory.count (rw f at s.stands) p.0 p.1);
    }

pub invariant_of-self-in-Fault : goal.invariant_of-self-in-Fault
invariant_of-self-in-Fault g c =
    let told = g.O.Sink.told in
    let s = c.args.self.now in
    let f = c.if-self.false in
    let p = rw (rest_is, c.deref.ensures.value) at (rw c.in-Fault.is at c.push.ensures.took) in
    record {
      stands = held_failed (told s.known.value).took (told s.inner).took (told c.push.new.sink).took
          s.buffer.items s.out (rw f at s.stands) p;
    }

pub returns-then-self : goal.returns-then-self
returns-then-self g c = record {
  call = out_stopped _ _ _ _;
  fault = λ x. cc;
  runs = λ t. inl t;
  stopped = λ _. (refl, refl);
  capacity = omega arith;
  below = tt;
}

pub returns-in-Memory : goal.returns-in-Memory
returns-in-Memory g c =
    let p = rw c.in-Memory.is at c.push.ensures in
    record {
      call = record {
        took = refl;
        flushed = p.flushed;
        link = rw p.link refl;
        faults = p.faults;
        failed = λ x. cc;
        unfailed = tt;
        short = λ _. p.unfailed;
        empty = tt;
        whole = tt;
      };
      fault = λ x. cc;
      runs = λ t. inl t;
      stopped = λ t. cc;
      capacity = omega arith;
      below = tt;
    }

pub returns-in-Fault : goal.returns-in-Fault
returns-in-Fault g c =
    let p = rw c.in-Fault.is at c.push.ensures in
    record {
      call = record {
        took = refl;
        flushed = p.flushed;
        link = rw p.link refl;
        faults = p.faults;
        failed = λ _. p.failed refl;
        unfailed = tt;
        short = λ x. cc;
        empty = tt;
        whole = tt;
      };
      fault = λ _. refl;
      runs = λ _. inr refl;
      stopped = λ t. cc;
      capacity = omega arith;
      below = tt;
    }
