use Rattle.std.proofs.Common.{◌≡◌, inl, inr, rules}
use Rattle.xet_room.specs.Texts.{short_line}
use Rattle.xet_resume_command.proofs.printing.print_short.Goals as goal

pub returns-in-Ok-clause-text : goal.returns-in-Ok-clause-text
returns-in-Ok-clause-text g c =
    let text : c.as_bytes.result.now ≡ short_line c.args.actual = search rules in
    inl (rw text at c.print_text.ensures.text)

pub returns-in-Err-clause-text : goal.returns-in-Err-clause-text
returns-in-Err-clause-text g c = inr c.say.ensures.text
