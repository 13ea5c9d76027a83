use Rattle.std.proofs.Common.{◌≡◌, ◌-◌, map, take}
use Rattle.xet_outside.proofs.offsets.Offsets.to_vec.Given as goal

abbrev pub invariant-loop-place : goal.invariant-loop-place
invariant-loop-place l = l.own.items ≡ map (λ p. p - l.base) (take l.place-index l.places)
