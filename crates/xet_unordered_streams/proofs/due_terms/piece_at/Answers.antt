use Rattle.std.proofs.Common.{ap, subst, sym}
use Rattle.xet_leader.specs.declared.leader.LedPlan.{LedPlan}
use Rattle.xet_leader.specs.Led.{Led}
use Rattle.xet_leader.specs.LedTerms.{BytesOf, of_plan}
use Rattle.xet_unordered_streams.proofs.AheadTerms.{plan_found}
use Rattle.xet_unordered_streams.proofs.due_terms.piece_at.Goals as goal

pub returns : goal.returns
returns g c skip x = subst (λ (p : LedPlan). BytesOf (of_plan p c.args.found.term) c.bytes_of.result)
    (sym (plan_found c.leader.inside.plans.items c.args.leader.now (ap (λ (l : Led). l.plans) c.leader.view_is) skip
    c.args.found x c.index.result.now c.index.ensures)) c.bytes_of.ensures
