use Rattle.std.proofs.Common.{ap, Err}
use Rattle.xet_audit_command.specs.Audit.{report_text}
use Rattle.xet_room.proofs.CallerLemmas.{finished_err, finished_more, short_after, stopped_flushed, stopped_short, stopped_unfailed, unfailed_after}
use Rattle.xet_audit_command.proofs.command.print_report.Goals as goal

pub returns-in-Ok-clause-text : goal.returns-in-Ok-clause-text
returns-in-Ok-clause-text g c =
    let told = g.O.Sink.told in
    let w = rw c.in-Ok.is at c.write_report.ensures in
    finished_more (told c.args.out.now) (told c.write_report.new.out) (told c.print_text.new.out)
    (report_text c.args.report.now.findings c.args.report.now.spare) c.args.last.now _ _ w.took w.faults c.print_text.ensures.text

pub returns-in-Ok-clause-unfailed : goal.returns-in-Ok-clause-unfailed
returns-in-Ok-clause-unfailed g c =
    let told = g.O.Sink.told in
    let w = rw c.in-Ok.is at c.write_report.ensures in
    unfailed_after (told c.args.out.now) (told c.write_report.new.out) (told c.print_text.new.out) _ w.unfailed c.print_text.ensures.unfailed

pub returns-in-Ok-clause-short : goal.returns-in-Ok-clause-short
returns-in-Ok-clause-short g c =
    let told = g.O.Sink.told in
    let w = rw c.in-Ok.is at c.write_report.ensures in
    short_after (told c.args.out.now) (told c.write_report.new.out) (told c.print_text.new.out) _ w.unfailed c.print_text.ensures.short

pub returns-in-Err-clause-text : goal.returns-in-Err-clause-text
returns-in-Err-clause-text g c =
    let told = g.O.Sink.told in
    rw c.stopped.ensures (finished_err (told c.args.out.now) (told c.write_report.new.out)
    (report_text c.args.report.now.findings c.args.report.now.spare) c.args.last.now c.args.status c.in-Err.error
    (rw c.in-Err.is at c.write_report.ensures))

pub returns-in-Err-clause-flushed : goal.returns-in-Err-clause-flushed
returns-in-Err-clause-flushed g c = rw c.stopped.ensures (stopped_flushed (g.O.Sink.told c.write_report.new.out) c.in-Err.error)

pub returns-in-Err-clause-unfailed : goal.returns-in-Err-clause-unfailed
returns-in-Err-clause-unfailed g c =
    let told = g.O.Sink.told in
    rw c.stopped.ensures (stopped_unfailed (told c.args.out.now) (told c.write_report.new.out) c.in-Err.error)

pub returns-in-Err-clause-short : goal.returns-in-Err-clause-short
returns-in-Err-clause-short g c =
    let told = g.O.Sink.told in
    let w = rw c.in-Err.is at c.write_report.ensures in
    rw c.stopped.ensures (stopped_short (told c.args.out.now) (told c.write_report.new.out) c.in-Err.error (λ e. w.short (ap Err e)))
