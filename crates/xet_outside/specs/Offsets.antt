-- The places of a block's chunks.
use Rattle.std.specs.Prelude.{ℕ, ◌-◌, List, map, slice_range}

-- of some places those from one number to before another, each less a number, and none below 0
abbrev pub places_after : ℕ → List ℕ → ℕ → ℕ → List ℕ
places_after base places start end = map (λ p. p - base) (slice_range places start end)
