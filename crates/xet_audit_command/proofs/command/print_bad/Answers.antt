use Rattle.std.proofs.Common.{◌≡◌, inl, inr, rules}
use Rattle.xet_room.specs.Texts.{bad_line}
use Rattle.xet_audit_command.proofs.command.print_bad.Goals as goal

pub returns-in-Ok-clause-text : goal.returns-in-Ok-clause-text
returns-in-Ok-clause-text g c =
    let text : c.as_bytes.result.now ≡ bad_line c.args.count = search rules in
    inl (rw text at c.print_report.ensures.text)

pub returns-in-Err-clause-text : goal.returns-in-Err-clause-text
returns-in-Err-clause-text g c = inr c.say.ensures.text
