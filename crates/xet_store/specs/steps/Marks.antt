-- Where the marks of some chunks stand.
use Rattle.std.specs.Prelude.{ℕ, ◌≡◌, ◌<◌, ◌≤◌, Bool, true, false, List, length, slice_index_or}

-- the marked chunks lie from one number on and before another, which is within the marks
pub record IsMarkedWithin (low high : ℕ) (marks : List Bool) : Type 0 where
  pub order : low ≤ high
  pub inside : high ≤ length marks
  pub before : (k : ℕ) → k < low → slice_index_or marks k false ≡ false
  pub after : (k : ℕ) → high ≤ k → slice_index_or marks k false ≡ false

-- the chunks from one number on and before another are marked
abbrev pub AreMarked : ℕ → ℕ → List Bool → Type 0
AreMarked low high marks = (k : ℕ) → low ≤ k → k < high → slice_index_or marks k false ≡ true
