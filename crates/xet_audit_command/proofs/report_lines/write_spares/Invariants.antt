use Rattle.std.proofs.Common.{take, Ok}
use Rattle.std.specs.List.{flat_map}
use Rattle.xet_outside.specs.Written.{WroteAll}
use Rattle.xet_audit_command.specs.Audit.{spare_line}
use Rattle.xet_audit_command.proofs.report_lines.write_spares.Given as goal

abbrev pub invariant-loop-hash : goal.invariant-loop-hash
invariant-loop-hash g l =
    let told = g.O.Sink.told in
    WroteAll (told l.initial.out) (told l.out) (flat_map spare_line (take l.hash-index l.spare)) (Ok tt)
