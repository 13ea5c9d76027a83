-- The numbers that words spell.
use Rattle.std.specs.Prelude.{ℕ, ◌+◌, ◌-◌, ◌*◌, ◌^◌, ◌&&◌, Bool, cond, List, [], ◌∷◌, length, Option, Some, None}
use Rattle.std.specs.Prelude.{nat_lt, nat_le}
use Rattle.std.specs.Char.{is_ascii_digit}
use Rattle.std.specs.List.{list_all}

-- the number that decimal digits spell: each digit times the power of ten of its place, summed
abbrev pub number_of_digits : List ℕ → ℕ
number_of_digits [] = 0
number_of_digits (x ∷ xs) = (x - 48) * 10 ^ length xs + number_of_digits xs

-- the text is 1 to 20 decimal digits of at most u64::MAX
abbrev pub is_number : List ℕ → Bool
is_number text =
    nat_le (length text) 20
    && (list_all is_ascii_digit text && (nat_lt 0 (length text) && nat_lt (number_of_digits text) (2 ^ 64)))

-- the number of such a text
abbrev pub number_of_text : List ℕ → Option ℕ
number_of_text text = cond (is_number text) (Some (number_of_digits text)) None
