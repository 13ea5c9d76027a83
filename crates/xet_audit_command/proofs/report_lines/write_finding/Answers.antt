use Rattle.std.proofs.Common.{◌≡◌, rules}
use Rattle.xet_audit_command.specs.Audit.{finding_line}
use Rattle.xet_audit_command.proofs.Lines.{wrote_nothing}
use Rattle.xet_audit_command.proofs.report_lines.write_finding.Goals as goal

pub returns-in-Ok : goal.returns-in-Ok
returns-in-Ok g c =
    let text : c.as_bytes.result.now ≡ finding_line c.args.finding.now = search rules in
    rw text at c.write_plainly.ensures

pub returns-in-Err : goal.returns-in-Err
returns-in-Err g c = wrote_nothing (g.O.Sink.told c.args.out.now) (finding_line c.args.finding.now)
