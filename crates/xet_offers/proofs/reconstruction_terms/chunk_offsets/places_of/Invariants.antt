use Rattle.std.proofs.Common.{◌≡◌, ◌≤◌, ◌+◌, ◌-◌, ◌^◌, ℕ, length, map, take}
use Rattle.std.specs.Prelude.{min, vec_len, vec_capacity}
use Rattle.xet_offers.proofs.reconstruction_terms.chunk_offsets.places_of.Given as goal

abbrev pub invariant-loop-place : goal.invariant-loop-place
invariant-loop-place l =
    (vec_len l.places + (length l.pairs - l.place-index) ≤ vec_capacity l.places)
    × (l.places.items ≡ map (λ (c : ℕ × ℕ). min c.1 (2 ^ 32 - 1)) (take l.place-index l.pairs))
