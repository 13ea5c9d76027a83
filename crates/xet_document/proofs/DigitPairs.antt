-- Pairs of hexadecimal digits, tested and decoded one after another.
use Rattle.std.proofs.Common.{◌≡◌, ℕ, ◌+◌, ◌-◌, ◌*◌, ◌%◌, ◌<◌, ◌≤◌, Bool, true, false, ◌&&◌, List, [], ◌∷◌, length, map, get_or, take, drop, slice_index, slice_set, Ok, refl, sym, ◌∙◌, arith}
use Rattle.std.specs.Prelude.{IfSome, MatchOption, Option, Result, Err, Some, None, if◌then◌else◌, is_some, nat_le, nat_lt, unwrap_or}
use Rattle.std.specs.Result.{result_ok}
use Rattle.std.specs.List.{list_all, range_with_len}
use Rattle.std.proofs.lemmas.Bool.{and_parts, false≢true, leb-true, lt-ltb, ltb-true}
use Rattle.std.proofs.lemmas.List.{take_all, take_more}
use Rattle.std.proofs.lemmas.List.FromFn.{get_or-map-range_with_len}
use Rattle.std.proofs.lemmas.List.Sums.{list_all-from_AllPass}
use Rattle.std.proofs.lemmas.List.Folds.{list_all-append}
use Rattle.hex.specs.Hex.{decode_of, decode_pairs, hex_digit_value, is_hex_digit, pair_value}
use Rattle.hex.specs.declared.error.FromHexError.{FromHexError}
use Rattle.hex.proofs.HexLemmas.{decode_of-even, decode_of-ok}
use Rattle.hex.proofs.Pairs.{decode_done, decode_step, prepend}

one_digit : (c : ℕ) → list_all is_hex_digit (c ∷ []) ≡ is_hex_digit c
one_digit c = go (is_hex_digit c)
  where
    go : (b : Bool) → (b && true) ≡ b
    go true = refl
    go false = refl

-- whether all digits so far are digits, with a pair more
pub pair_more : (t : List ℕ) (i : ℕ) → 2 * i + 1 < length t
    → list_all is_hex_digit (take (2 * (i + 1)) t)
    ≡ ((list_all is_hex_digit (take (2 * i) t) && is_hex_digit (slice_index t (2 * i))) && is_hex_digit (slice_index t (2 * i + 1)))
pair_more t i fits =
    let a = take_more t (2 * i) 0 (omega arith) in
    let b = take_more t (2 * i + 1) 0 (omega arith) in
    let two : 2 * (i + 1) ≡ 2 * i + 1 + 1 = omega arith in
    let p = list_all-append is_hex_digit (take (2 * i) t) (slice_index t (2 * i) ∷ []) in
    let q = list_all-append is_hex_digit (take (2 * i + 1) t) (slice_index t (2 * i + 1) ∷ []) in
    rw (two, b, q, one_digit (slice_index t (2 * i + 1)), a, p, one_digit (slice_index t (2 * i))) refl

-- ---- the table

-- the value of a digit, and 255 of another byte
abbrev pub value_or_none : ℕ → ℕ
value_or_none d = unwrap_or (hex_digit_value d) 255

-- the values of all bytes
abbrev pub all_values : List ℕ
all_values = map value_or_none (range_with_len 0 256)

pub value_at : (d : ℕ) → d < 256 → get_or all_values d 0 ≡ value_or_none d
value_at d h = get_or-map-range_with_len value_or_none 0 256 d d 0 h (omega arith)

-- the value of a digit is below 16
value_small : (d : ℕ) → IfSome (hex_digit_value d) (λ v. v < 16)
value_small d = by_range (nat_le 65 d && nat_le d 70) (nat_le 97 d && nat_le d 102) (nat_le 48 d && nat_le d 57) refl refl refl
  where
    by_range : (a b c : Bool) → (nat_le 65 d && nat_le d 70) ≡ a → (nat_le 97 d && nat_le d 102) ≡ b → (nat_le 48 d && nat_le d 57) ≡ c
        → IfSome (if a then Some (d - 55) else if b then Some (d - 87) else if c then Some (d - 48) else None) (λ v. v < 16)
    by_range true b c e f g = let h = leb-true d 70 (and_parts (nat_le 65 d) (nat_le d 70) e).1 in omega arith
    by_range false true c e f g = let h = leb-true d 102 (and_parts (nat_le 97 d) (nat_le d 102) f).1 in omega arith
    by_range false false true e f g = let h = leb-true d 57 (and_parts (nat_le 48 d) (nat_le d 57) g).1 in omega arith
    by_range false false false e f g = tt

-- and that of another byte isn't
pub value_test : (d : ℕ) → nat_lt (value_or_none d) 16 ≡ is_hex_digit d
value_test d = by_value (hex_digit_value d) (value_small d)
  where
    by_value : (o : Option ℕ) → IfSome o (λ v. v < 16) → nat_lt (unwrap_or o 255) 16 ≡ is_some o
    by_value None h = refl
    by_value (Some v) h = lt-ltb v 16 h

-- ---- pairs

digit_value : (o : Option ℕ) → is_some o ≡ true → o ≡ Some (unwrap_or o 255)
digit_value (Some v) h = refl
digit_value None h = absurd (cc)

-- two digits have the value of their pair
pub pair_of_digits : (a b i : ℕ) → is_hex_digit a ≡ true → is_hex_digit b ≡ true → pair_value a b i ≡ Ok (value_or_none a * 16 + value_or_none b)
pair_of_digits a b i ha hb =
    let x = digit_value (hex_digit_value a) ha in
    let y = digit_value (hex_digit_value b) hb in
    rw (x, y) refl

-- a pair more is decoded
pub pair_decoded : (t out : List ℕ) (i : ℕ) (all p q : Bool) (b : ℕ) → 2 * i + 1 < length t → i < length out
    → p ≡ is_hex_digit (slice_index t (2 * i)) → q ≡ is_hex_digit (slice_index t (2 * i + 1))
    → b ≡ ((value_or_none (slice_index t (2 * i)) * 16) % 256 + value_or_none (slice_index t (2 * i + 1))) % 256
    → (all ≡ true → decode_pairs 0 t ≡ prepend (take i out) (decode_pairs (2 * i) (drop (2 * i) t)))
    → ((all && p) && q) ≡ true
    → decode_pairs 0 t ≡ prepend (take (i + 1) (slice_set out i b)) (decode_pairs (2 * (i + 1)) (drop (2 * (i + 1)) t))
pair_decoded t out i all p q b fits room ep eq eb before h =
    let outer = and_parts (all && p) q h in
    let inner = and_parts all p outer.0 in
    let high : is_hex_digit (slice_index t (2 * i)) ≡ true = sym ep ∙ inner.1 in
    let low : is_hex_digit (slice_index t (2 * i + 1)) ≡ true = sym eq ∙ outer.1 in
    let x = ltb-true _ 16 (value_test (slice_index t (2 * i)) ∙ high) in
    let y = ltb-true _ 16 (value_test (slice_index t (2 * i + 1)) ∙ low) in
    let byte : b ≡ value_or_none (slice_index t (2 * i)) * 16 + value_or_none (slice_index t (2 * i + 1)) = eb ∙ no_wrap _ _ x y in
    rw byte (decode_step t out i _ fits room (pair_of_digits (slice_index t (2 * i)) (slice_index t (2 * i + 1)) (2 * i) high low) (before inner.0))
  where
    no_wrap : (x y : ℕ) → x < 16 → y < 16 → ((x * 16) % 256 + y) % 256 ≡ x * 16 + y
    no_wrap x y h l = omega arith

-- all pairs are tested and decoded
pub all_decoded : (t out : List ℕ) (i : ℕ) (all : Bool) → length out ≤ i → length t ≡ 2 * length out → length t ≤ 2 * i
    → all ≡ list_all is_hex_digit (take (2 * i) t)
    → (all ≡ true → decode_pairs 0 t ≡ prepend (take i out) (decode_pairs (2 * i) (drop (2 * i) t)))
    → MatchOption (result_ok (decode_of t)) (all ≡ false) (λ found. (all ≡ true) × (out ≡ found))
all_decoded t out i true done twice whole tested h =
    rw (decode_of-even t (omega arith) ∙ decode_done t out i done (omega arith) (h refl)) (refl, refl)
all_decoded t out i false done twice whole tested h = none (decode_of t) refl
  where
    none : (r : Result (List ℕ) FromHexError) → decode_of t ≡ r → MatchOption (result_ok r) (false ≡ false) (λ found. (false ≡ true) × (out ≡ found))
    none (Err e) is = refl
    none (Ok bytes) is =
        let digits = decode_of-ok t bytes is in
        let passed = list_all-from_AllPass is_hex_digit t digits.1 in
        absurd (false≢true (rw (take_all (2 * i) t whole, passed) at tested))
