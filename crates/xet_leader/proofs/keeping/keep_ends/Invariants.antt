use Rattle.xet_leader.specs.Keeping.{KeptSteps, all_steps}
use Rattle.xet_leader.proofs.keeping.keep_ends.Given as goal

abbrev pub invariant-loop-end : goal.invariant-loop-end
invariant-loop-end l = KeptSteps (all_steps l.yielded) l.initial.plans.items l.plans.items l.initial.places l.places
