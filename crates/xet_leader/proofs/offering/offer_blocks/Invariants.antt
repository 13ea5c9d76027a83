use Rattle.std.proofs.Common.{take}
use Rattle.xet_leader.specs.Offering.{OfferedEach}
use Rattle.xet_leader.proofs.offering.offer_blocks.Given as goal

abbrev pub invariant-loop-place : goal.invariant-loop-place
invariant-loop-place g l =
    let told = g.K.ChunkCache.told in
    OfferedEach l.plans.items (take l.place-index l.places) (told l.fn.cache) (told l.cache)
