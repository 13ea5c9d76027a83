use Rattle.std.proofs.Common.{◌≡◌, [], take}
use Rattle.xet_leader.specs.Lacking.{with_places}
use Rattle.xet_leader.proofs.missing_blocks.each_once.Given as goal

abbrev pub invariant-loop-place : goal.invariant-loop-place
invariant-loop-place l = l.found.places ≡ with_places [] (take l.place-index l.places)
