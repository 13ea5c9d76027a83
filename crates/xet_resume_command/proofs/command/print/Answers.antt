use Rattle.std.proofs.Common.{inr}
use Rattle.xet_resume_command.proofs.Printed.{listed_printed, unlisted_printed}
use Rattle.xet_resume_command.proofs.command.print.Goals as goal

pub returns-in-Ok-Some-clause-printed : goal.returns-in-Ok-Some-clause-printed
returns-in-Ok-Some-clause-printed g c =
    let told = g.O.Sink.told in
    listed_printed c.args.wanted.now c.args.text.items (told c.args.out.now) (told c.print_store-status.new.out)
    c.print_store-status.result c.in-Ok-Some.store (rw c.in-Ok-Some.field-0-is at c.in-Ok-Some.ensures)
    c.print_store-status.ensures.printed

pub returns-in-Ok-None-clause-printed : goal.returns-in-Ok-None-clause-printed
returns-in-Ok-None-clause-printed g c =
    let told = g.O.Sink.told in
    unlisted_printed c.args.wanted.now c.args.text.items (told c.args.out.now) (told c.say.new.out) c.say.result
    (rw c.in-Ok-None.field-0-is at c.in-Ok-None.ensures) c.say.ensures.text

pub returns-in-Err-clause-printed : goal.returns-in-Err-clause-printed
returns-in-Err-clause-printed g c = inr c.say-in-Err.ensures.text
