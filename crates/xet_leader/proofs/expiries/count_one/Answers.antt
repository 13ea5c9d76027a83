use Rattle.std.proofs.Common.{◌≡◌, None, Some, refl}
use Rattle.std.specs.Prelude.{slice_get}
use Rattle.xet_leader.specs.Places.{place_at}
use Rattle.xet_leader.proofs.ChangedPlans.{read_none, read_some}
use Rattle.xet_leader.proofs.Counting.{one_none, one_other, one_there}
use Rattle.xet_leader.proofs.expiries.count_one.Goals as goal

pub returns-in_default : goal.returns-in_default
returns-in_default c =
    let at : slice_get c.args.plans.now.items c.plan_index-place.result ≡ None =
    read_none c.args.plans.now.items c.args.plans.now.len c.plan_index-place.result c.args.plans.now.ok.0
    c.in_default.ensures.variant.1 in
    one_none c.args.tries (place_at c.args.at) c.args.plans.now.items c.plan_index-place.result
    c.plan_index-place.ensures at

pub returns-then-plan-at : goal.returns-then-plan-at
returns-then-plan-at c =
    let at : slice_get c.args.plans.now.items c.plan_index-place.result ≡ Some c.in-Some.plan.now =
    read_some c.args.plans.now.items c.args.plans.now.len c.plan_index-place.result c.in-Some.plan.now
    c.args.plans.now.ok.0 (c.in-Some.ensures.variant.0 refl) c.in-Some.ensures.value in
    one_other c.args.tries (place_at c.args.at) c.args.plans.now.items c.plan_index-place.result c.in-Some.plan.now
    c.plan_index-place.ensures at c.if-plan-at.true

pub returns : goal.returns
returns c =
    let at : slice_get c.args.plans.now.items c.plan_index-place.result ≡ Some c.in-Some.plan.now =
    read_some c.args.plans.now.items c.args.plans.now.len c.plan_index-place.result c.in-Some.plan.now
    c.args.plans.now.ok.0 (c.in-Some.ensures.variant.0 refl) c.in-Some.ensures.value in
    one_there c.args.tries (place_at c.args.at) c.args.plans.now.items c.plan_index-place.result c.in-Some.plan.now
    c.count_in.new.plan c.count_in.result c.plan_index-place.ensures at c.if-plan-at.false
    c.count_in.ensures.counted c.count_in.ensures.left c.count_in.ensures.spent
