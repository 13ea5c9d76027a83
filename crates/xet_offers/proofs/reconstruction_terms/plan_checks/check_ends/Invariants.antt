use Rattle.std.proofs.Common.{drop}
use Rattle.xet_offers.specs.PlanChecks.{sizes_from}
use Rattle.xet_offers.proofs.TermEnds.{IsAtEnd}
use Rattle.xet_offers.proofs.reconstruction_terms.plan_checks.check_ends.Given as goal

abbrev pub invariant-loop-number : goal.invariant-loop-number
invariant-loop-number l = IsAtEnd l.fn.query.start (sizes_from l.fn.plan.offset_into_first_range l.fn.plan.terms) l.number l.place l.length (sizes_from l.offset (drop l.number l.fn.plan.terms))
