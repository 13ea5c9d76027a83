-- Hexadecimal text of lower-case digits, and what a sink that writes it tells.
use Rattle.std.specs.Prelude.{ℕ, ◌+◌, ◌-◌, ◌*◌, ◌/◌, ◌≤◌, nat_le, nat_lt, if◌then◌else◌, List, [], ◌∷◌, length}
use Rattle.std.specs.Prelude.{drop, slice_index, Option, option_map, unwrap_or, Bool, true, false, ◌&&◌, ◌==◌}
use Rattle.hex.specs.Hex.{encode_lower, lower_digits}
use Rattle.xet_outside.specs.Told.{SinkTold, Took, TookPrefix, over}

-- the value of a lower-case digit
abbrev pub value_of : ℕ → ℕ
value_of x = if nat_le x 57 then x - 48 else x - 87

-- it is the digit of a number below 16
abbrev pub is_hex : ℕ → Bool
is_hex x = nat_lt (value_of x) 16 && slice_index lower_digits (value_of x) == x

abbrev pub all_hex : List ℕ → Bool
all_hex [] = true
all_hex (x ∷ xs) = is_hex x && all_hex xs

-- the bytes of some digits, where `d` is the second digit of a last byte that has only its first
abbrev pub bytes_of : ℕ → List ℕ → List ℕ
bytes_of d [] = []
bytes_of d (x ∷ []) = (16 * value_of x + value_of d) ∷ []
bytes_of d (x ∷ y ∷ xs) = (16 * value_of x + value_of y) ∷ bytes_of d xs

-- an even number of digits
abbrev pub even : List ℕ → Bool
even [] = true
even (x ∷ []) = false
even (x ∷ y ∷ xs) = even xs

-- the list, where it is told
abbrev pub list_of : Option (List ℕ) → List ℕ
list_of o = unwrap_or o []

-- what a sink took since it had taken `start`
abbrev pub since : Option (List ℕ) → Option (List ℕ) → List ℕ
since start now = drop (length (list_of start)) (list_of now)

-- how many bytes it took since then
abbrev pub steps : Option (List ℕ) → Option (List ℕ) → ℕ
steps known now = length (list_of now) - length (list_of known)

-- the digit that comes next, where the piece of digits was begun at `known`
abbrev pub next_digit : Option (List ℕ) → Option (List ℕ) → List ℕ → ℕ
next_digit known now digits = slice_index digits (steps known now)

-- the bytes whose first digits are out
abbrev pub taken : Option (List ℕ) → Option (List ℕ) → Option (List ℕ) → List ℕ → Option (List ℕ)
taken start known now digits = option_map (λ _. bytes_of (next_digit known now digits) (since start now)) now

-- what is told over an inner sink that told `start` at first and `known` when the piece of digits was begun
abbrev pub hex_told : SinkTold → SinkTold → SinkTold → List ℕ → SinkTold
hex_told start known now digits = record {
  took = taken start.took known.took now.took digits;
  flushed = option_map (λ n. (n - length (list_of start.took)) / 2) now.flushed;
  faults = now.faults;
  link = over start.took now.link;
}

-- what the inner sink took since `start` is the digits of what is told
abbrev pub HexText : Option (List ℕ) → Option (List ℕ) → Option (List ℕ) → Type 0
HexText start now took = Took start now (encode_lower (list_of took))

-- it is a prefix of these digits
abbrev pub HexPrefix : Option (List ℕ) → Option (List ℕ) → Option (List ℕ) → Type 0
HexPrefix start now took = TookPrefix start now (encode_lower (list_of took))

-- of which at most one is missing
abbrev pub MissesOne : Option (List ℕ) → Option (List ℕ) → Option (List ℕ) → Type 0
MissesOne start now took = 2 * length (list_of took) ≤ length (since start now) + 1
