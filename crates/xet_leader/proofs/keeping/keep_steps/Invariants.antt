use Rattle.xet_leader.specs.Keeping.{KeptSteps}
use Rattle.xet_leader.proofs.keeping.keep_steps.Given as goal

abbrev pub invariant-loop-step : goal.invariant-loop-step
invariant-loop-step l = KeptSteps l.yielded l.initial.plans.items l.plans.items l.initial.places l.places
