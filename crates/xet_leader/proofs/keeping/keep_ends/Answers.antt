use Rattle.xet_leader.proofs.KeptSteps.{ends_more, steps_none}
use Rattle.xet_leader.proofs.keeping.keep_ends.Goals as goal

pub loop-end-preserved : goal.loop-end-preserved
loop-end-preserved c = ends_more c.loop-end.yielded c.in-Some.end c.args.plans.now.items c.loop-end.plans.items _
    c.args.places.now c.loop-end.places _ c.loop-end.invariant c.in-Ok.ensures

pub loop-end-init : goal.loop-end-init
loop-end-init c = steps_none _ _
