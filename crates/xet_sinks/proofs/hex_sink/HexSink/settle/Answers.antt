use Rattle.std.proofs.Common.{rules, ◌≡◌, ◌<◌, false, inl, inr, refl}
use Rattle.xet_sinks.proofs.DigitsOut.{stands_settled, stands_failed}
use Rattle.xet_sinks.proofs.MissingDigit.{settled_ok, settled_err, settled_memory, settled_none, settled_stopped}
use Rattle.xet_sinks.proofs.hex_sink.HexSink.settle.Goals as goal

pub invariant_of-self : goal.invariant_of-self
invariant_of-self g c =
    let f : c.args.self.now.stopped ≡ false = search rules in
    let l : 0 < c.args.self.now.at = search rules in
    record {
      stands = rw f (stands_settled _ _ _ _ _ c.args.self.now.at (rw f at c.args.self.now.stands) l
          (rw c.in-Whole.is at c.push.ensures.took)).0;
    }

pub invariant_of-self-in-Fault : goal.invariant_of-self-in-Fault
invariant_of-self-in-Fault g c =
    let f : c.args.self.now.stopped ≡ false = search rules in
    let l : 0 < c.args.self.now.at = search rules in
    record {
      stands = (stands_failed _ _ _ _ _ c.args.self.now.at (rw f at c.args.self.now.stands) l
          (rw c.in-Fault.is at c.push.ensures.took)).0;
    }

pub returns-in-Whole-clause-call : goal.returns-in-Whole-clause-call
returns-in-Whole-clause-call g c =
    let told = g.O.Sink.told in
    let f : c.args.self.now.stopped ≡ false = search rules in
    let l : 0 < c.args.self.now.at = search rules in
    rw f (settled_ok (told c.args.self.now.start.value) (told c.args.self.now.known.value) _ _ _ c.args.self.now.at
    (rw f at c.args.self.now.stands) l (rw c.in-Whole.is at c.push.ensures))

pub returns-in-Fault-clause-call : goal.returns-in-Fault-clause-call
returns-in-Fault-clause-call g c =
    let told = g.O.Sink.told in
    let f : c.args.self.now.stopped ≡ false = search rules in
    let l : 0 < c.args.self.now.at = search rules in
    settled_err (told c.args.self.now.start.value) (told c.args.self.now.known.value) _ _ _ c.args.self.now.at
    (rw f at c.args.self.now.stands) l (rw c.in-Fault.is at c.push.ensures)

pub returns-then-self : goal.returns-then-self
returns-then-self g c = record {
  call = settled_stopped _ _ _;
  fault = λ x. cc;
  runs = λ t. inl t;
  stopped = λ _. (refl, refl);
}

pub returns-then-self-eq0 : goal.returns-then-self-eq0
returns-then-self-eq0 g c = record {
  call = settled_none _ _ _ c.if-self-eq0.true c.if-self.false;
  fault = λ x. cc;
  runs = λ t. inl t;
  stopped = λ t. cc;
}

pub returns-in-Whole-clause-fault : goal.returns-in-Whole-clause-fault
returns-in-Whole-clause-fault g c = λ x. cc

pub returns-in-Whole-clause-runs : goal.returns-in-Whole-clause-runs
returns-in-Whole-clause-runs g c = λ t. inl t

pub returns-in-Whole-clause-stopped : goal.returns-in-Whole-clause-stopped
returns-in-Whole-clause-stopped g c = λ t. cc

pub returns-in-Memory : goal.returns-in-Memory
returns-in-Memory g c =
    let told = g.O.Sink.told in
    let s = c.args.self.now in
    record {
      call = settled_memory (told s.start.value) (told s.known.value) (told s.inner) (told c.push.new.sink) s.digits _
          s.at _ s.stopped (rw c.in-Memory.is at c.push.ensures);
      fault = λ x. cc;
      runs = λ t. inl t;
      stopped = λ t. cc;
    }

pub returns-in-Fault-clause-fault : goal.returns-in-Fault-clause-fault
returns-in-Fault-clause-fault g c = λ _. refl

pub returns-in-Fault-clause-runs : goal.returns-in-Fault-clause-runs
returns-in-Fault-clause-runs g c = λ _. inr refl

pub returns-in-Fault-clause-stopped : goal.returns-in-Fault-clause-stopped
returns-in-Fault-clause-stopped g c = λ t. cc
