use Rattle.std.proofs.Common.{◌≡◌, rules}
use Rattle.std.specs.List.{flat_map}
use Rattle.xet_audit_command.specs.Audit.{finding_line, spare_line}
use Rattle.xet_audit_command.proofs.Lines.{wrote_first, wrote_then}
use Rattle.xet_audit_command.proofs.report_lines.write_report.Goals as goal

pub returns-in-Ok : goal.returns-in-Ok
returns-in-Ok g c =
    let told = g.O.Sink.told in
    let first : c.as_slice.result.now ≡ c.args.report.now.findings = search rules in
    let second : c.as_slice-in-Ok.result.now ≡ c.args.report.now.spare = search rules in
    wrote_then (told c.args.out.now) (told c.write_findings.new.out) (told c.write_spares.new.out)
    (flat_map finding_line c.args.report.now.findings) (flat_map spare_line c.args.report.now.spare) c.write_spares.result
    (rw (first, c.in-Ok.is) at c.write_findings.ensures) (rw second at c.write_spares.ensures)

pub returns-in-Err : goal.returns-in-Err
returns-in-Err g c =
    let told = g.O.Sink.told in
    let first : c.as_slice.result.now ≡ c.args.report.now.findings = search rules in
    wrote_first (told c.args.out.now) (told c.write_findings.new.out) (flat_map finding_line c.args.report.now.findings)
    (flat_map spare_line c.args.report.now.spare) c.in-Err.error (rw (first, c.in-Err.is) at c.write_findings.ensures)
