use Rattle.std.proofs.Common.{take, All}
use Rattle.xet_agree.specs.steps.Alike.{HasChunks}
use Rattle.xet_agree.proofs.agreement.xorbs_agree.Given as goal

abbrev pub invariant-loop-xorb : goal.invariant-loop-xorb
invariant-loop-xorb l = All (HasChunks l.t) (take l.xorb-index l.xorb-items)
