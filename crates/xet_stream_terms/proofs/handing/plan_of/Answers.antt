use Rattle.std.proofs.Common.{ap, sym}
use Rattle.xet_leader.specs.declared.leader.LedPlan.{LedPlan}
use Rattle.xet_leader.specs.Led.{Led}
use Rattle.xet_stream_terms.proofs.HandCalls.{plan_read}
use Rattle.xet_stream_terms.proofs.handing.plan_of.Goals as goal

pub returns : goal.returns
returns g c x = sym (ap (λ (p : LedPlan). p.number) (plan_read c.leader.inside.plans.items c.args.leader.now
    (ap (λ (l : Led). l.plans) c.leader.view_is) c.args.next x c.index.result.now c.index.ensures))
