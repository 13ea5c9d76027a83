use Rattle.std.proofs.Common.{◌≡◌}
use Rattle.xet_sinks.proofs.write_sink.WriteSinkFilePlaceSink.seek.Given as goal

abbrev pub invariant-loop : goal.invariant-loop
invariant-loop l = l.self.faults ≡ l.initial.self.faults
