use Rattle.std.proofs.Common.{[], ◌∷◌}
use Rattle.xet_leader.proofs.KeptSteps.{steps_none, steps_then}
use Rattle.xet_leader.proofs.keeping.keep_steps.Goals as goal

pub loop-step-preserved : goal.loop-step-preserved
loop-step-preserved c =
    steps_then c.loop-step.yielded (c.in-Some.step ∷ []) c.args.plans.now.items c.loop-step.plans.items _
    c.args.places.now c.loop-step.places _ c.loop-step.invariant c.in-Ok.ensures

pub loop-step-init : goal.loop-step-init
loop-step-init c = steps_none _ _
