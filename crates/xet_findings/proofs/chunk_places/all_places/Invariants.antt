use Rattle.std.proofs.Common.{◌≡◌, map, take}
use Rattle.xet_findings.specs.Places.{places_of}
use Rattle.xet_findings.proofs.chunk_places.all_places.Given as goal

abbrev pub invariant-loop-xorb : goal.invariant-loop-xorb
invariant-loop-xorb l = l.all ≡ map (λ x. places_of x.chunks) (take l.xorb-index l.xorbs)
