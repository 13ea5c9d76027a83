use Rattle.std.proofs.Common.{refl, inl, inr}
use Rattle.xet_get_command.proofs.command.print_within.Goals as goal

pub returns-in-Ok : goal.returns-in-Ok
returns-in-Ok g c = record { printed = inl c.print.ensures.printed; flushed = c.print.ensures.flushed; unfailed = c.print.ensures.unfailed }

pub returns-in-Err : goal.returns-in-Err
returns-in-Err g c = record { printed = inr (refl, c.say.ensures.text); flushed = c.say.ensures.flushed; unfailed = c.say.ensures.unfailed }
