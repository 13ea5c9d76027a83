use Rattle.std.proofs.Common.{take, All}
use Rattle.xet_agree.specs.steps.Alike.{HasBytes}
use Rattle.xet_agree.proofs.agreement.files_agree.Given as goal

abbrev pub invariant-loop-file : goal.invariant-loop-file
invariant-loop-file l = All (HasBytes l.s l.t) (take l.file-index l.file-items)
