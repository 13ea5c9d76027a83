use Rattle.xet_audit_command.specs.Audit.{spare_line}
use Rattle.xet_audit_command.proofs.Lines.{wrote_each, wrote_none, wrote_one, wrote_part}
use Rattle.xet_audit_command.proofs.report_lines.write_spares.Goals as goal

pub loop-hash-init : goal.loop-hash-init
loop-hash-init g c = wrote_none (g.O.Sink.told c.args.out.now)

pub loop-hash-preserved : goal.loop-hash-preserved
loop-hash-preserved g c =
    let told = g.O.Sink.told in
    wrote_one spare_line c.args.spare.now c.loop-hash.hash-index _ (told c.args.out.now) (told c.loop-hash.out)
    (told c.write_spare.new.out) c.loop-hash-test.true c.loop-hash.invariant (rw c.in-Ok.is at c.write_spare.ensures)

pub returns-in-Err : goal.returns-in-Err
returns-in-Err g c =
    let told = g.O.Sink.told in
    wrote_part spare_line c.args.spare.now c.loop-hash.hash-index _ (told c.args.out.now) (told c.loop-hash.out)
    (told c.write_spare.new.out) c.in-Err.error c.loop-hash-test.true c.loop-hash.invariant (rw c.in-Err.is at c.write_spare.ensures)

pub returns : goal.returns
returns g c =
    let told = g.O.Sink.told in
    wrote_each spare_line c.args.spare.now c.loop-hash.hash-index (told c.args.out.now) (told c.loop-hash.out)
    c.loop-hash-test.false c.loop-hash.invariant
