use Rattle.std.proofs.Common.{take}
use Rattle.xet_leader.specs.Looks.{LooksFrom}
use Rattle.xet_leader.proofs.looks.look_up_places.Given as goal

abbrev pub invariant-loop-place : goal.invariant-loop-place
invariant-loop-place g l =
    LooksFrom (g.K.ChunkCache.told l.initial.cache)
    (g.K.ChunkCache.told l.cache) l.initial.core l.core l.initial.plans.items l.plans.items
    (take l.place-index l.places) l.left
