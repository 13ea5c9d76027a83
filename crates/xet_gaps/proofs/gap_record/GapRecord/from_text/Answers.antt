use Rattle.xet_gaps.proofs.TextsRead.{no_gaps, no_head}
use Rattle.xet_gaps.proofs.gap_record.GapRecord.from_text.Goals as goal

pub returns-in_default-clause-cause : goal.returns-in_default-clause-cause
returns-in_default-clause-cause c = λ e. no_head c.args.text.now (rw c.in_default.is at c.read_head.ensures)

pub returns-in-Err-clause-cause : goal.returns-in-Err-clause-cause
returns-in-Err-clause-cause c = λ e.
    no_gaps c.args.text.now c.in-Some.head.rest.now c.in-Some.head.file c.in-Some.head.length c.recall.ensures.short
    (rw c.in-Some.is at c.read_head.ensures) (let f = rw c.in-Err.is at c.read_gaps.ensures.cause in f e)
