use Rattle.std.proofs.Common.{◌≡◌, ◌≤◌, ◌-◌, length, take, true}
use Rattle.xet_outside.specs.Told.{SinkTold, Took}
use Rattle.xet_sinks.specs.HexText.{hex_told}
use Rattle.xet_sinks.proofs.hex_sink.HexSink.put_all.Given as goal

abbrev pub invariant-loop-taken : goal.invariant-loop-taken
invariant-loop-taken g l =
    let told = g.O.Sink.told in
    let b : SinkTold = hex_told (told l.initial.self.start.value) (told l.initial.self.known.value)
    (told l.initial.self.inner) l.initial.self.digits in
    let n : SinkTold = hex_told (told l.self.start.value) (told l.self.known.value) (told l.self.inner) l.self.digits in
    record {
      in_range : l.taken ≤ length l.piece;
      took : Took b.took n.took (take l.taken l.piece);
      flushed : n.flushed ≡ b.flushed;
      link : n.link ≡ b.link;
      faults : n.faults ≡ b.faults;
      runs : l.self.stopped ≡ true → l.initial.self.stopped ≡ true;
    }

abbrev pub decreases-loop-taken : goal.decreases-loop-taken
decreases-loop-taken g l = length l.piece - l.taken
