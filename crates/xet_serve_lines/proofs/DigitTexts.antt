-- The numbers that digits spell.
use Rattle.std.proofs.Common.{◌≡◌, ℕ, ◌^◌, ◌<◌, ◌&&◌, zero, suc, Bool, true, false, cond, List, [], ◌∷◌, length, Some, None, Ok, Err, refl, ap, rules, arith, leb}
use Rattle.std.specs.Prelude.{Result, nat_lt}
use Rattle.std.specs.Char.{is_ascii_digit}
use Rattle.std.specs.List.{list_all}
use Rattle.std.specs.Result.{OkIff, result_ok}
use Rattle.std.specs.Str.{IsAscii, IsUtf8}
use Rattle.std.specs.Str.Parse.{ParsesUnsigned}
use Rattle.std.proofs.lemmas.Bool.{and_parts, leb-true, lt-ltb, ltb-true}
use Rattle.std.proofs.lemmas.Str.{IsUtf8-from_ascii}
use Rattle.std.proofs.lemmas.Str.Parse.{IsNumeralModel, IsDigitsTest, numerals_by_weight, parse_digits}
use Rattle.xet_serve_lines.specs.Requests.{number_of_digits}
use Rattle.xet_serve_lines.specs.steps.Buffers.{digits_number}

tells_digits : IsDigitsTest (λ ds. list_all is_ascii_digit ds ≡ true)
tells_digits = search rules

-- the sum over the digits is the number that they write
own : IsNumeralModel (λ ds. list_all is_ascii_digit ds ≡ true) number_of_digits
own = numerals_by_weight (λ ds. list_all is_ascii_digit ds ≡ true) tells_digits number_of_digits (record { empty = refl; more = λ c cs h. refl })

digits_ascii : (text : List ℕ) → list_all is_ascii_digit text ≡ true → IsAscii text
digits_ascii [] h i = omega arith
digits_ascii (x ∷ xs) h zero =
    let parts = and_parts (is_ascii_digit x) (list_all is_ascii_digit xs) h in
    let most = and_parts (leb 48 x) (leb x 57) parts.0 in
    let l = leb-true x 57 most.1 in
    omega (arith, l)
digits_ascii (x ∷ xs) h (suc i) =
    digits_ascii xs (and_parts (is_ascii_digit x) (list_all is_ascii_digit xs) h).1 i

-- digits are a text
pub digits_utf8 : (text : List ℕ) → list_all is_ascii_digit text ≡ true → IsUtf8 text
digits_utf8 text h = IsUtf8-from_ascii text (digits_ascii text h)

-- digits that parse are a number, and no others
pub digits_parsed : {E : Type 0} (text : List ℕ) (r : Result ℕ E) → ParsesUnsigned 64 10 text r
    → list_all is_ascii_digit text ≡ true → result_ok r ≡ digits_number text
digits_parsed {E} text r h digits = by_answer r (parse_digits own 64 text r h digits)
  where
    fits : Bool
    fits = nat_lt 0 (length text) && nat_lt (number_of_digits text) (2 ^ 64)

    refused : (a b : Bool) → nat_lt 0 (length text) ≡ a → nat_lt (number_of_digits text) (2 ^ 64) ≡ b → ¬ ((0 < length text) × (number_of_digits text < 2 ^ 64)) → (a && b) ≡ false
    refused false b e f no_number = refl
    refused true false e f no_number = refl
    refused true true e f no_number = absurd (no_number (ltb-true 0 (length text) e, ltb-true (number_of_digits text) (2 ^ 64) f))

    by_answer : (r : Result ℕ E) → OkIff r ((0 < length text) × (number_of_digits text < 2 ^ 64)) (number_of_digits text) → result_ok r ≡ cond fits (Some (number_of_digits text)) None
    by_answer (Ok x) p = rw (lt-ltb 0 (length text) p.0.0, lt-ltb (number_of_digits text) (2 ^ 64) p.0.1) (ap Some p.1)
    by_answer (Err e) p = rw (refused (nat_lt 0 (length text)) (nat_lt (number_of_digits text) (2 ^ 64)) refl refl p) refl
