-- Endpoints and their schemes.
use Rattle.std.specs.Prelude.{◌≡◌, ℕ, List, ◌++◌}

-- the text is the prefix and then some rest
abbrev pub Begins : List ℕ → List ℕ → Type 0
Begins text prefix = (rest : List ℕ) × (text ≡ prefix ++ rest)
