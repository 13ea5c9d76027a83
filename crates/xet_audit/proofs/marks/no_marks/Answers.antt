use Rattle.std.proofs.Common.{rules}
use Rattle.xet_audit.proofs.marks.no_marks.Goals as goal

pub returns : goal.returns
returns c = search rules
