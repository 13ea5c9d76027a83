use Rattle.std.proofs.Common.{◌≡◌, inl, inr, rules}
use Rattle.hex.specs.Hex.{encode_lower}
use Rattle.xet_resume_command.specs.steps.Printing.{last_lines}
use Rattle.xet_resume_command.proofs.printing.print_filled.Goals as goal

pub returns-in-Ok-lines-clause-text : goal.returns-in-Ok-lines-clause-text
returns-in-Ok-lines-clause-text g c =
    let text : c.as_bytes.result.now ≡ encode_lower c.args.content.now = search rules in
    let last : c.as_bytes-in-Ok-lines.result.now ≡ last_lines c.args.gaps.now c.args.count = search rules in
    inl (rw (text, last) at c.print_both.ensures.text)

pub returns-clause-text : goal.returns-clause-text
returns-clause-text g c = inr c.say-in-Err.ensures.text
