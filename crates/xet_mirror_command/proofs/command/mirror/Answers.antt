use Rattle.std.proofs.Common.{inl, inr, refl}
use Rattle.xet_mirror_command.proofs.command.mirror.Goals as goal

pub returns-in-Ok-clause-outcome : goal.returns-in-Ok-clause-outcome
returns-in-Ok-clause-outcome g c taps =
    record { unasked = refl; printed = inr (c.in-Ok.text.items, c.in-Ok.ensures.over, rw c.in-Ok.ensures.silent at c.print.ensures.printed) }

pub returns-in-Err-clause-outcome : goal.returns-in-Err-clause-outcome
returns-in-Err-clause-outcome g c taps = record { unasked = refl; printed = inl c.in-Err.ensures.unread }

pub returns-in-Ok-clause-unfailed : goal.returns-in-Ok-clause-unfailed
returns-in-Ok-clause-unfailed g c = rw c.in-Ok.ensures.silent at c.print.ensures.unfailed

pub returns-in-Ok-clause-short : goal.returns-in-Ok-clause-short
returns-in-Ok-clause-short g c = rw c.in-Ok.ensures.silent at c.print.ensures.short

pub returns-in-Ok-clause-read : goal.returns-in-Ok-clause-read
returns-in-Ok-clause-read g c = inl c.in-Ok.ensures.faultless
