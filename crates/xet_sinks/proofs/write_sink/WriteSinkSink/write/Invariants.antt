use Rattle.std.proofs.Common.{◌≡◌}
use Rattle.std.specs.Io.KnownBytes.{Keeps}
use Rattle.xet_sinks.proofs.write_sink.WriteSinkSink.write.Given as goal

abbrev pub invariant-loop : goal.invariant-loop
invariant-loop g l = record {
  faults : l.self.faults ≡ l.initial.self.faults;
  kept : Keeps (g.B.Write.contents l.initial.self.inner) (g.B.Write.contents l.self.inner);
}
