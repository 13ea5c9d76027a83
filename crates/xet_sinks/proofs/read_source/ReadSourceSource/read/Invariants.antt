use Rattle.std.proofs.Common.{◌≡◌}
use Rattle.std.specs.Io.KnownBytes.{Keeps}
use Rattle.xet_sinks.proofs.read_source.ReadSourceSource.read.Given as goal

abbrev pub invariant-loop : goal.invariant-loop
invariant-loop g l = record {
  faults : l.self.faults ≡ l.initial.self.faults;
  kept : Keeps (g.A.Read.remaining l.initial.self.inner) (g.A.Read.remaining l.self.inner);
}
