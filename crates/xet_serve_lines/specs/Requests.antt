-- The requests that lines spell.
use Rattle.std.specs.Prelude.{ℕ, ◌-◌, ◌*◌, ◌+◌, ◌^◌, ◌==◌, ◌&&◌, not, Bool, cond, List, [], ◌∷◌, length, Option, Some}
use Rattle.std.specs.Prelude.{None, codes, nat_le, nat_lt, option_and_then, option_map, slice_index}
use Rattle.std.specs.Char.{is_ascii_digit}
use Rattle.std.specs.List.{after_first, before_first, list_all, position_or_len, slice_split}
use Rattle.std.specs.Str.{bytes_eq}
use Rattle.xet_base.specs.declared.cas_types.FileRange.{FileRange}
use Rattle.xet_base.specs.declared.merklehash.MerkleHash.{MerkleHash}
use Rattle.xet_base.specs.HashText.{hash_of_text}
use Rattle.xet_serve_lines.specs.declared.requests.Request.{Request}

-- ---- numbers

-- the number that decimal digits spell: each digit times the power of ten of its place, summed
abbrev pub number_of_digits : List ℕ → ℕ
number_of_digits [] = 0
number_of_digits (x ∷ xs) = (x - 48) * 10 ^ length xs + number_of_digits xs

-- a zero stands before other digits
abbrev pub has_leading_zero : List ℕ → Bool
has_leading_zero text = nat_lt 1 (length text) && (slice_index text 0 == 48)

-- decimal digits of at most u64::MAX, without a leading zero
abbrev pub is_number : List ℕ → Bool
is_number text =
    not (has_leading_zero text)
    && (list_all is_ascii_digit text && (nat_lt 0 (length text) && nat_lt (number_of_digits text) (2 ^ 64)))

-- the number of such a text
abbrev pub number_of_text : List ℕ → Option ℕ
number_of_text text = cond (is_number text) (Some (number_of_digits text)) None

-- ---- ranges

-- what stands before the first such byte and behind it, where there is one
abbrev pub cut_at : ℕ → List ℕ → Option (List ℕ × List ℕ)
cut_at sep text =
    cond (nat_lt (position_or_len (λ b. b == sep) text) (length text))
    (Some (before_first (λ b. b == sep) text, after_first (λ b. b == sep) text)) None

-- a start and an end, in two texts
abbrev pub range_of_parts : List ℕ × List ℕ → Option FileRange
range_of_parts x =
    option_and_then (λ a. option_map (λ b. record { start = a; end = b }) (number_of_text x.1)) (number_of_text x.0)

-- a start and an end with a dash between
abbrev pub range_of_text : List ℕ → Option FileRange
range_of_text text = option_and_then range_of_parts (cut_at 45 text)

-- ranges, where each text is one
abbrev pub ranges_of_texts : List (List ℕ) → Option (List FileRange)
ranges_of_texts [] = Some []
ranges_of_texts (t ∷ ts) = option_and_then (λ r. option_map (λ rs. r ∷ rs) (ranges_of_texts ts)) (range_of_text t)

-- 1 to 16 ranges with a comma between
abbrev pub ranges_of : List ℕ → Option (List FileRange)
ranges_of text =
    cond (nat_le (length (slice_split (λ b. b == 44) text)) 16) (ranges_of_texts (slice_split (λ b. b == 44) text)) None

-- ---- requests

-- a file, and ranges of its bytes
pub record Asked : Type 0 where
  pub file : MerkleHash
  pub ranges : List FileRange

-- what a request asks for
abbrev pub asked : Request → Asked
asked r = record { file = r.file; ranges = r.ranges.items }

-- a hash and another text with a space between
abbrev pub file_of_parts : List ℕ × List ℕ → Option (MerkleHash × List ℕ)
file_of_parts x = option_map (λ file. (file, x.1)) (hash_of_text x.0)

-- these behind `GET`
abbrev pub words_of_parts : List ℕ × List ℕ → Option (MerkleHash × List ℕ)
words_of_parts x = cond (bytes_eq x.0 (codes "GET")) (option_and_then file_of_parts (cut_at 32 x.1)) None

-- `GET`, a hash and another text, with a space between
abbrev pub words_of : List ℕ → Option (MerkleHash × List ℕ)
words_of line = option_and_then words_of_parts (cut_at 32 line)

-- the text being ranges
abbrev pub request_of_parts : MerkleHash × List ℕ → Option Asked
request_of_parts x = option_map (λ ranges. record { file = x.0; ranges = ranges }) (ranges_of x.1)

-- `GET`, a hash and ranges, with one space between
abbrev pub request_of : List ℕ → Option Asked
request_of line = option_and_then request_of_parts (words_of line)
