use Rattle.std.proofs.Common.{take}
use Rattle.xet_leader.specs.Fetching.{AreFetches}
use Rattle.xet_leader.proofs.fetching.fetches_of.Given as goal

abbrev pub invariant-loop-place : goal.invariant-loop-place
invariant-loop-place l = AreFetches l.plans.items l.first (take l.place l.places) l.made
