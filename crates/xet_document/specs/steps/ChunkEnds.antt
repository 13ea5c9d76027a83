-- Chunks that stand joined in one buffer.
use Rattle.std.specs.Prelude.{ℕ, ◌≡◌, ◌++◌, Bool, true, false, List, Option, MatchOption}

-- the chunk, where there is one, was added to the bytes
abbrev pub AddsChunk : Option (List ℕ) → Bool → List ℕ → List ℕ → Type 0
AddsChunk o added old now = MatchOption o (added ≡ false) (λ chunk. (added ≡ true) × (now ≡ old ++ chunk))
