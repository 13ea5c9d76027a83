use Rattle.std.proofs.Common.{◌≡◌, rules}
use Rattle.xet_audit_command.specs.Audit.{spare_line}
use Rattle.xet_audit_command.proofs.Lines.{wrote_nothing}
use Rattle.xet_audit_command.proofs.report_lines.write_spare.Goals as goal

pub returns-in-Ok : goal.returns-in-Ok
returns-in-Ok g c =
    let text : c.as_bytes.result.now ≡ spare_line c.args.hash.now = search rules in
    rw text at c.write_plainly.ensures

pub returns-in-Err : goal.returns-in-Err
returns-in-Err g c = wrote_nothing (g.O.Sink.told c.args.out.now) (spare_line c.args.hash.now)
