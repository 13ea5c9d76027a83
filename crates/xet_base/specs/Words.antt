-- The number that bytes write.
use Rattle.std.specs.Prelude.{ℕ, ◌+◌, ◌*◌, List, [], ◌∷◌}

-- the number whose digits to the base 256 are these, the highest first, behind those of another number
abbrev pub number_of : ℕ → List ℕ → ℕ
number_of m [] = m
number_of m (b ∷ bs) = number_of (m * 256 + b) bs
