use Rattle.std.proofs.Common.{◌≡◌, take}
use Rattle.std.specs.Prelude.{None}
use Rattle.xet_leader.specs.Listings.{lowest_from}
use Rattle.xet_leader.proofs.missing_blocks.lowest_of.Given as goal

abbrev pub invariant-loop-place : goal.invariant-loop-place
invariant-loop-place l = l.lowest ≡ lowest_from None l.plan (take l.place-index l.places)
