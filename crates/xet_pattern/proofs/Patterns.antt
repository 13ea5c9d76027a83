-- The bytes of the made file.
use Rattle.std.proofs.Common.{◌≡◌, ℕ, ◌+◌, ◌%◌, [], ◌∷◌, ◌++◌, arith}
use Rattle.std.proofs.lemmas.List.FromFn.{map-range_with_len_more}
use Rattle.xet_pattern.specs.Patterns.{pattern}

-- one byte more
pub pattern_more : (n : ℕ) → pattern (n + 1) ≡ pattern n ++ n % 251 ∷ []
pattern_more n = map-range_with_len_more (λ p. p % 251) 0 n n (omega arith)
