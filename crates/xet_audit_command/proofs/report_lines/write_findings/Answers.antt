use Rattle.xet_audit_command.specs.Audit.{finding_line}
use Rattle.xet_audit_command.proofs.Lines.{wrote_each, wrote_none, wrote_one, wrote_part}
use Rattle.xet_audit_command.proofs.report_lines.write_findings.Goals as goal

pub loop-finding-init : goal.loop-finding-init
loop-finding-init g c = wrote_none (g.O.Sink.told c.args.out.now)

pub loop-finding-preserved : goal.loop-finding-preserved
loop-finding-preserved g c =
    let told = g.O.Sink.told in
    wrote_one finding_line c.args.findings.now c.loop-finding.finding-index _ (told c.args.out.now) (told c.loop-finding.out)
    (told c.write_finding.new.out) c.loop-finding-test.true c.loop-finding.invariant (rw c.in-Ok.is at c.write_finding.ensures)

pub returns-in-Err : goal.returns-in-Err
returns-in-Err g c =
    let told = g.O.Sink.told in
    wrote_part finding_line c.args.findings.now c.loop-finding.finding-index _ (told c.args.out.now) (told c.loop-finding.out)
    (told c.write_finding.new.out) c.in-Err.error c.loop-finding-test.true c.loop-finding.invariant (rw c.in-Err.is at c.write_finding.ensures)

pub returns : goal.returns
returns g c =
    let told = g.O.Sink.told in
    wrote_each finding_line c.args.findings.now c.loop-finding.finding-index (told c.args.out.now) (told c.loop-finding.out)
    c.loop-finding-test.false c.loop-finding.invariant
