use Rattle.std.proofs.Common.{◌<◌, arith}
use Rattle.xet_parts.proofs.Admitting.{admitting_done, admitting_more, admitting_short, admitting_start, admitting_stuck}
use Rattle.xet_parts.proofs.admission.admit_terms.Goals as goal

pub loop-left-preserved : goal.loop-left-preserved
loop-left-preserved g c =
    let some : 0 < c.loop-left.left = omega arith in
    admitting_more _ _ _ _ _ _ _ _ _ c.loop-left.invariant c.limit-limit.ensures c.in-Ok.ensures.added some

pub returns-in-Err-NotAllowed : goal.returns-in-Err-NotAllowed
returns-in-Err-NotAllowed g c =
    let some : 0 < c.loop-left.left = omega arith in
    admitting_stuck _ _ _ _ _ _ _ _ _ c.loop-left.invariant c.limit-limit.ensures c.in-Err-NotAllowed.ensures.kept some (c.in-Err-NotAllowed.ensures.refused (cc))

pub returns-in-Err-OutOfMemory : goal.returns-in-Err-OutOfMemory
returns-in-Err-OutOfMemory g c = admitting_short _ _ _ _ _ _ _ _ _ c.loop-left.invariant c.limit-limit.ensures c.in-Err-OutOfMemory.ensures.kept

pub returns : goal.returns
returns g c = admitting_done _ _ _ _ _ _ c.loop-left.invariant (omega arith)

pub loop-left-init : goal.loop-left-init
loop-left-init g c = admitting_start _ _ _
