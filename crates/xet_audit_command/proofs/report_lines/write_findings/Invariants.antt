use Rattle.std.proofs.Common.{take, Ok}
use Rattle.std.specs.List.{flat_map}
use Rattle.xet_outside.specs.Written.{WroteAll}
use Rattle.xet_audit_command.specs.Audit.{finding_line}
use Rattle.xet_audit_command.proofs.report_lines.write_findings.Given as goal

abbrev pub invariant-loop-finding : goal.invariant-loop-finding
invariant-loop-finding g l =
    let told = g.O.Sink.told in
    WroteAll (told l.initial.out) (told l.out) (flat_map finding_line (take l.finding-index l.findings)) (Ok tt)
