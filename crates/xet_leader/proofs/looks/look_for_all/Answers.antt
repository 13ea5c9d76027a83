use Rattle.std.proofs.Common.{◌≡◌, rules, subst, sym, List}
use Rattle.xet_leader.specs.declared.leader.LedPlan.{LedPlan}
use Rattle.xet_leader.specs.Lacking.{missing_of}
use Rattle.xet_leader.specs.Looks.{CanLookAll}
use Rattle.xet_leader.proofs.LookSteps.{can_all}
use Rattle.xet_leader.proofs.looks.look_for_all.Goals as goal

pub look_up_places-requires : goal.look_up_places-requires
look_up_places-requires g c =
    let listed : c.as_slice.result.now ≡ missing_of c.args.leader.now = search rules in
    let plans : c.args.leader.now.plans ≡ c.leader.inside.plans.items = search rules in
    subst (λ (ls : List LedPlan). CanLookAll c.args.core.now ls c.as_slice.result.now) plans
    (subst (CanLookAll c.args.core.now c.args.leader.now.plans) (sym listed)
    (can_all c.args.core.now c.args.leader.now c.requires))
