use Rattle.std.proofs.Common.{◌≡◌, inl, inr, rules}
use Rattle.xet_mirror_command.specs.steps.Printing.{text_of_report}
use Rattle.xet_mirror_command.proofs.report.print_report.Goals as goal

pub returns-in-Ok-clause-text : goal.returns-in-Ok-clause-text
returns-in-Ok-clause-text g c =
    let text : c.as_bytes.result.now ≡ text_of_report c.args.report.now = search rules in
    inl (rw text at c.print_text.ensures.text)

pub returns-in-Err-clause-text : goal.returns-in-Err-clause-text
returns-in-Err-clause-text g c = inr c.say.ensures.text
