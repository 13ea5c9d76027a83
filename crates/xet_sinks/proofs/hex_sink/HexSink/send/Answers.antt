use Rattle.std.proofs.Common.{rules, ◌≡◌, ◌<◌, ◌%◌, arith}
use Rattle.xet_sinks.specs.declared.pushing.Sent.TheVariants.{Memory}
use Rattle.xet_sinks.proofs.PieceOfDigits.{sent_whole, sent_none, sent_even, sent_odd, sent_fault}
use Rattle.xet_sinks.proofs.hex_sink.HexSink.send.Goals as goal

pub invariant_of-self : goal.invariant_of-self
invariant_of-self g c =
    let told = g.O.Sink.told in
    let s = c.args.self.now in
    let w = c.digits_of-digits.ensures in
    let h = rw (c.requires.whole.0, c.requires.whole.1) at s.stands in
    let p = rw w.front at (rw c.in-Whole.is at c.push.ensures) in
    record {
      stands = rw (c.of.ensures, c.requires.whole.0, c.requires.whole.1)
          (sent_whole (told s.start.value) (told s.known.value) (told s.inner) (told c.push.new.sink) s.digits
          c.digits_of-digits.result c.args.bytes.now h w p).1;
    }

pub returns-in-Whole-clause-call : goal.returns-in-Whole-clause-call
returns-in-Whole-clause-call g c =
    let told = g.O.Sink.told in
    let s = c.args.self.now in
    let w = c.digits_of-digits.ensures in
    let h = rw (c.requires.whole.0, c.requires.whole.1) at s.stands in
    let p = rw w.front at (rw c.in-Whole.is at c.push.ensures) in
    rw c.of.ensures (sent_whole (told s.start.value) (told s.known.value) (told s.inner) (told c.push.new.sink)
    s.digits c.digits_of-digits.result c.args.bytes.now h w p).0

pub invariant_of-self-then-out-eq1 : goal.invariant_of-self-then-out-eq1
invariant_of-self-then-out-eq1 g c =
    let told = g.O.Sink.told in
    let s = c.args.self.now in
    let w = c.digits_of-digits.ensures in
    let h = rw (c.requires.whole.0, c.requires.whole.1) at s.stands in
    let p = rw w.front at (rw c.in-Memory.is at c.push.ensures) in
    let z : 0 < c.in-Memory.out = search rules in
    record {
      stands = rw (c.of.ensures, c.requires.whole.1)
          (sent_odd (told s.start.value) (told s.known.value) (told s.inner) (told c.push.new.sink) s.digits
          c.digits_of-digits.result c.args.bytes.now c.in-Memory.out z c.if-out-eq1.true h w p).1;
    }

pub returns-then-out-eq1-clause-call : goal.returns-then-out-eq1-clause-call
returns-then-out-eq1-clause-call g c =
    let told = g.O.Sink.told in
    let s = c.args.self.now in
    let w = c.digits_of-digits.ensures in
    let h = rw (c.requires.whole.0, c.requires.whole.1) at s.stands in
    let p = rw w.front at (rw c.in-Memory.is at c.push.ensures) in
    let z : 0 < c.in-Memory.out = search rules in
    rw c.of.ensures (sent_odd (told s.start.value) (told s.known.value) (told s.inner) (told c.push.new.sink) s.digits
    c.digits_of-digits.result c.args.bytes.now c.in-Memory.out z c.if-out-eq1.true h w p).0

pub invariant_of-self-else-out-eq1 : goal.invariant_of-self-else-out-eq1
invariant_of-self-else-out-eq1 g c =
    let told = g.O.Sink.told in
    let s = c.args.self.now in
    let w = c.digits_of-digits.ensures in
    let h = rw (c.requires.whole.0, c.requires.whole.1) at s.stands in
    let p = rw w.front at (rw c.in-Memory.is at c.push.ensures) in
    let z : 0 < c.in-Memory.out = search rules in
    let f = c.if-out-eq1.false in
    let v : c.in-Memory.out % 2 ≡ 0 = omega arith in
    record {
      stands = rw (c.of.ensures, c.requires.whole.0, c.requires.whole.1)
          (sent_even (told s.start.value) (told s.known.value) (told s.inner) (told c.push.new.sink) s.digits
          c.digits_of-digits.result c.args.bytes.now c.in-Memory.out z v h w p).1;
    }

pub returns-else-out-eq1-clause-call : goal.returns-else-out-eq1-clause-call
returns-else-out-eq1-clause-call g c =
    let told = g.O.Sink.told in
    let s = c.args.self.now in
    let w = c.digits_of-digits.ensures in
    let h = rw (c.requires.whole.0, c.requires.whole.1) at s.stands in
    let p = rw w.front at (rw c.in-Memory.is at c.push.ensures) in
    let z : 0 < c.in-Memory.out = search rules in
    let f = c.if-out-eq1.false in
    let v : c.in-Memory.out % 2 ≡ 0 = omega arith in
    rw c.of.ensures (sent_even (told s.start.value) (told s.known.value) (told s.inner) (told c.push.new.sink)
    s.digits c.digits_of-digits.result c.args.bytes.now c.in-Memory.out z v h w p).0

pub returns-in-Memory-eq0-clause-call : goal.returns-in-Memory-eq0-clause-call
returns-in-Memory-eq0-clause-call g c =
    let told = g.O.Sink.told in
    let s = c.args.self.now in
    let w = c.digits_of-digits.ensures in
    let h = rw (c.requires.whole.0, c.requires.whole.1) at s.stands in
    let e : c.push.result ≡ Memory 0 = search rules in
    let p = rw w.front at (rw e at c.push.ensures) in
    rw c.of.ensures (sent_none (told s.start.value) (told s.known.value) (told s.inner) (told c.push.new.sink)
    s.digits c.digits_of-digits.result c.args.bytes.now h w p).0

pub invariant_of-self-in-Fault : goal.invariant_of-self-in-Fault
invariant_of-self-in-Fault g c =
    let told = g.O.Sink.told in
    let s = c.args.self.now in
    let w = c.digits_of-digits.ensures in
    let h = rw (c.requires.whole.0, c.requires.whole.1) at s.stands in
    let p = rw w.front at (rw c.in-Fault.is at c.push.ensures) in
    record {
      stands = rw c.of.ensures (sent_fault (told s.start.value) (told s.known.value) (told s.inner)
          (told c.push.new.sink) s.digits c.digits_of-digits.result c.args.bytes.now s.at h w p).1;
    }

pub returns-in-Fault-clause-call : goal.returns-in-Fault-clause-call
returns-in-Fault-clause-call g c =
    let told = g.O.Sink.told in
    let s = c.args.self.now in
    let w = c.digits_of-digits.ensures in
    let h = rw (c.requires.whole.0, c.requires.whole.1) at s.stands in
    let p = rw w.front at (rw c.in-Fault.is at c.push.ensures) in
    rw c.of.ensures (sent_fault (told s.start.value) (told s.known.value) (told s.inner) (told c.push.new.sink)
    s.digits c.digits_of-digits.result c.args.bytes.now s.at h w p).0
