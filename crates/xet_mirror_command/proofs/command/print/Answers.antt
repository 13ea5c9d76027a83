use Rattle.std.proofs.Common.{inr}
use Rattle.xet_mirror_command.proofs.Printed.{none_printed, stores_printed}
use Rattle.xet_mirror_command.proofs.command.print.Goals as goal

pub returns-in-Ok-Some-clause-printed : goal.returns-in-Ok-Some-clause-printed
returns-in-Ok-Some-clause-printed g c =
    let told = g.O.Sink.told in
    let i = c.in-Ok-Some.input in
    stores_printed c.args.verify c.args.text.items (told c.args.out.now) (told c.print_input.new.out) c.print_input.result
    i.stores.source i.stores.target i.files (rw c.in-Ok-Some.field-0-is at c.in-Ok-Some.ensures) c.print_input.ensures.printed

pub returns-in-Ok-None-clause-printed : goal.returns-in-Ok-None-clause-printed
returns-in-Ok-None-clause-printed g c =
    let told = g.O.Sink.told in
    none_printed c.args.verify c.args.text.items (told c.args.out.now) (told c.say.new.out) c.say.result
    (rw c.in-Ok-None.field-0-is at c.in-Ok-None.ensures) c.say.ensures.text

pub returns-in-Err-clause-printed : goal.returns-in-Err-clause-printed
returns-in-Err-clause-printed g c = inr c.say-in-Err.ensures.text

pub print_input-requires : goal.print_input-requires
print_input-requires g c = let has = rw c.in-Ok-Some.field-0-is at c.in-Ok-Some.ensures in has.is.agree
