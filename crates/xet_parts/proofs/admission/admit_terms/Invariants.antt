use Rattle.xet_parts.proofs.Admitting.{IsAdmitting}
use Rattle.xet_parts.proofs.admission.admit_terms.Given as goal

abbrev pub invariant-loop-left : goal.invariant-loop-left
invariant-loop-left g l = IsAdmitting (g.B.BudgetSource.told l.fn.source) (g.B.BudgetSource.told l.source) l.fn.core l.core l.fn.waiting l.left

abbrev pub decreases-loop-left : goal.decreases-loop-left
decreases-loop-left g l = l.left
