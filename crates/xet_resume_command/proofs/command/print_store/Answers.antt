use Rattle.std.proofs.Common.{inr}
use Rattle.xet_resume_command.proofs.Printed.{filled_printed, missing_printed, short_printed}
use Rattle.xet_resume_command.proofs.command.print_store.Goals as goal

pub returns-in-Ok-fetch_all-clause-printed : goal.returns-in-Ok-fetch_all-clause-printed
returns-in-Ok-fetch_all-clause-printed g c =
    let told = g.O.Sink.told in
    filled_printed c.args.wanted.now c.args.store.now (told c.args.out.now) (told c.print_filled.new.out)
    c.print_filled.result _ _ _ _ c.in-Ok-fetch_all.ensures c.content.ensures c.print_filled.ensures.text
