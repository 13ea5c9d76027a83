-- The lines of a session.
use Rattle.std.specs.Prelude.{ℕ, ◌≡◌, ◌==◌, Bool, false, cond, List, [], ◌∷◌, length, All, codes, nat_lt}
use Rattle.std.specs.Str.{bytes_eq}

-- a byte in front of the first of some lines
abbrev pub in_front : ℕ → List (List ℕ) → List (List ℕ)
in_front x [] = (x ∷ []) ∷ []
in_front x (l ∷ ls) = (x ∷ l) ∷ ls

-- the lines, each with a line end, which the last may lack
abbrev pub lines_of : List ℕ → List (List ℕ)
lines_of [] = []
lines_of (x ∷ xs) = cond (x == 10) ([] ∷ lines_of xs) (in_front x (lines_of xs))

-- a line has at most so many bytes
abbrev pub most_bytes : ℕ
most_bytes = 1024

-- a line has more
abbrev pub is_too_long : List ℕ → Bool
is_too_long line = nat_lt most_bytes (length line)

-- the line that ends a session
abbrev pub is_quit : List ℕ → Bool
is_quit line = bytes_eq line (codes "QUIT")

-- no byte is a line end
abbrev pub HasNoEnd : List ℕ → Type 0
HasNoEnd bytes = All (λ b. (b == 10) ≡ false) bytes

-- how many bytes a session may have
abbrev pub session_limit : ℕ
session_limit = 67108864
