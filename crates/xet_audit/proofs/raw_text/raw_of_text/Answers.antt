use Rattle.xet_audit.proofs.RawTexts.{of_listing}
use Rattle.xet_audit.proofs.raw_text.raw_of_text.Goals as goal

pub returns-in-Ok-Some-clause-listed : goal.returns-in-Ok-Some-clause-listed
returns-in-Ok-Some-clause-listed c =
    of_listing c.args.text.items c.in-Ok-Some.listing c.raw_of_listing.result
    (rw c.as_slice.ensures.value at (rw c.in-Ok-Some.field-0-is at c.in-Ok-Some.ensures.listed)) c.raw_of_listing.ensures.listed
