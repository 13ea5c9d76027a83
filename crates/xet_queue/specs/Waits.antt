-- Values that wait, in the order in which they came.
use Rattle.std.specs.Prelude.{ℕ, ◌==◌, List, [], ◌∷◌, cond, Option, Some, None}

-- the first value whose key is this one
abbrev pub first_with : {V : Type 0} → (V → ℕ) → ℕ → List V → Option V
first_with key at [] = None
first_with key at (v ∷ vs) = cond (key v == at) (Some v) (first_with key at vs)

-- the others
abbrev pub without_first : {V : Type 0} → (V → ℕ) → ℕ → List V → List V
without_first key at [] = []
without_first key at (v ∷ vs) = cond (key v == at) vs (v ∷ without_first key at vs)
