use Rattle.std.proofs.Common.{ap, sym}
use Rattle.xet_leader.specs.declared.leader.LedPlan.{LedPlan}
use Rattle.xet_leader.specs.Led.{Led}
use Rattle.xet_unordered_streams.proofs.AheadTerms.{plan_found}
use Rattle.xet_unordered_streams.proofs.due_terms.plan_of.Goals as goal

pub returns : goal.returns
returns g c skip x = sym (ap (λ (p : LedPlan). p.number) (plan_found c.leader.inside.plans.items c.args.leader.now
    (ap (λ (l : Led). l.plans) c.leader.view_is) skip c.args.found x c.index.result.now c.index.ensures))
