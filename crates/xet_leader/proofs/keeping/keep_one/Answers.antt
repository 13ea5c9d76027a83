use Rattle.std.proofs.Common.{◌≡◌, None, Some, refl}
use Rattle.std.specs.Prelude.{slice_get}
use Rattle.xet_leader.proofs.ChangedPlans.{read_none, read_some}
use Rattle.xet_leader.proofs.KeptSteps.{plan_none, plan_other, plan_there}
use Rattle.xet_leader.proofs.keeping.keep_one.Goals as goal

pub returns-in_default : goal.returns-in_default
returns-in_default c =
    let at : slice_get c.args.plans.now.items c.plan_index-place.result ≡ None =
    read_none c.args.plans.now.items c.args.plans.now.len c.plan_index-place.result c.args.plans.now.ok.0
    c.in_default.ensures.variant.1 in
    plan_none (c.args.at.plan, c.args.at.block, c.args.found) c.args.plans.now.items c.plan_index-place.result
    c.plan_index-place.ensures at

pub returns-then-plan-at : goal.returns-then-plan-at
returns-then-plan-at c =
    let at : slice_get c.args.plans.now.items c.plan_index-place.result ≡ Some c.in-Some.plan.now =
    read_some c.args.plans.now.items c.args.plans.now.len c.plan_index-place.result c.in-Some.plan.now
    c.args.plans.now.ok.0 (c.in-Some.ensures.variant.0 refl) c.in-Some.ensures.value in
    plan_there (c.args.at.plan, c.args.at.block, c.args.found) c.args.plans.now.items c.plan_index-place.result
    c.in-Some.plan.now c.keep_in.new.plan c.plan_index-place.ensures at c.if-plan-at.true c.keep_in.ensures

pub returns-else-plan-at : goal.returns-else-plan-at
returns-else-plan-at c =
    let at : slice_get c.args.plans.now.items c.plan_index-place.result ≡ Some c.in-Some.plan.now =
    read_some c.args.plans.now.items c.args.plans.now.len c.plan_index-place.result c.in-Some.plan.now
    c.args.plans.now.ok.0 (c.in-Some.ensures.variant.0 refl) c.in-Some.ensures.value in
    plan_other (c.args.at.plan, c.args.at.block, c.args.found) c.args.plans.now.items c.plan_index-place.result
    c.in-Some.plan.now c.plan_index-place.ensures at c.if-plan-at.false
