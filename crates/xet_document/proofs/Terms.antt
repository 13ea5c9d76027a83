-- A term of a document, and the number that digits write.
use Rattle.std.proofs.Common.{◌≡◌, ℕ, ◌<◌, ◌^◌, ◌==◌, List, [], ◌∷◌, false, length, Some, Ok, Err, refl, sym, ap, ◌∙◌, arith}
use Rattle.std.specs.Prelude.{IfSome, Option, Result, slice_index}
use Rattle.std.specs.Float.Numeral.{Parts, minus, scan_numeral as scan, text_of}
use Rattle.std.specs.Result.{result_ok}
use Rattle.std.specs.Str.Parse.{AllDigits, IsNumeral, ParsesUnsigned, digits_value}
use Rattle.std.proofs.lemmas.Bool.{lt-ltb}
use Rattle.std.proofs.lemmas.Float.Parse.{scan_numeral-text_of}
use Rattle.std.proofs.lemmas.List.{append-nil}
use Rattle.json.specs.Token.{Token}
use Rattle.json.specs.Json.{after_end_array}
use Rattle.serde_json.specs.Data.{item, no_items, number, string, unsigned}
use Rattle.serde_json.specs.Read.{number_of}
use Rattle.xet_base.specs.HashText.{hash_of_text}
use Rattle.xet_base.specs.declared.merklehash.MerkleHash.{MerkleHash}
use Rattle.xet_document.specs.Document.{term_of_items}
use Rattle.xet_document.specs.steps.Reads.{ReadsItems}
use Rattle.xet_document.proofs.Arrays.{item_more, items_read, no_items_yet, reads_number, reads_string}

-- digits alone, as the parts of a numeral
abbrev plain : List ℕ → Parts
plain s = record { whole = s; point = false; fraction = []; exponent_negative = false; exponent = []; len = length s }

scan_plain : (s : List ℕ) → AllDigits 10 s → scan s ≡ plain s
scan_plain s all =
    let text : text_of (plain s) ≡ s = append-nil s in
    ap scan (sym text) ∙ scan_numeral-text_of (plain s) (record {
      whole_digits = all;
      fraction_digits = tt;
      exponent_digits = tt;
      no_point = λ e. refl;
      no_exponent = λ e. refl;
      len_is = sym (ap length text);
    })

-- digits without a sign write their number
digits_write : (s : List ℕ) → (slice_index s 0 == minus) ≡ false → IsNumeral 10 s → digits_value 10 s < 2 ^ 64 → number_of s ≡ Some (unsigned (digits_value 10 s))
unfolding number_of
digits_write s sign some small =
    rw (sign, scan_plain s some.1, append-nil s, lt-ltb 0 (length s) some.0, lt-ltb (digits_value 10 s) (2 ^ 64) small) refl

-- so does what std reads as a number, if no sign stands first
pub parsed_write : {E : Type 0} (s : List ℕ) (r : Result ℕ E) (o : Option ℕ) → o ≡ result_ok r → (slice_index s 0 == 43) ≡ false → (slice_index s 0 == minus) ≡ false
    → ParsesUnsigned 32 10 s r → IfSome o (λ n. number_of s ≡ Some (unsigned n))
parsed_write s (Err e) o is plus sign parses = rw is tt
parsed_write s (Ok n) o is plus sign parses =
    let read : (IsNumeral 10 s × (digits_value 10 s < 2 ^ 32)) × (n ≡ digits_value 10 s) = rw plus at parses in
    rw is (digits_write s sign read.0.0 (omega (arith, read.0.1)) ∙ ap (λ (m : ℕ). Some (unsigned m)) (sym read.1))

-- a text and two numbers, and the bracket that closes their array
pub term_items : (text a b : List ℕ) (from to : ℕ) (t u v w after : List Token) → t ≡ Token.string text ∷ u → u ≡ Token.number a ∷ v → v ≡ Token.number b ∷ w
    → number_of a ≡ Some (unsigned from) → number_of b ≡ Some (unsigned to) → after_end_array w ≡ Some after
    → ReadsItems 123 t (item (string text) (item (number (unsigned from)) (item (number (unsigned to)) no_items))) after
term_items text a b from to t u v w after e f g m n over =
    let one = item_more 123 t t u [] (string text) (no_items_yet 123 t) (ap after_end_array e) (omega (arith, ap length e)) (rw e (reads_string 123 text u)) in
    let two = item_more 123 t u v (string text ∷ []) (number (unsigned from)) one (ap after_end_array f) (omega (arith, ap length f)) (rw f (reads_number 123 a (unsigned from) v m)) in
    let three = item_more 123 t v w (string text ∷ number (unsigned from) ∷ []) (number (unsigned to)) two (ap after_end_array g) (omega (arith, ap length g)) (rw g (reads_number 123 b (unsigned to) w n)) in
    items_read 123 t w after (string text ∷ number (unsigned from) ∷ number (unsigned to) ∷ []) three over

-- the term that they are
pub term_is : (text : List ℕ) (h : MerkleHash) (from to : ℕ) → hash_of_text text ≡ Some h → from < 2 ^ 32 → to < 2 ^ 32
    → term_of_items (item (string text) (item (number (unsigned from)) (item (number (unsigned to)) no_items))) ≡ Some (record { xorb = h; from = from; to = to })
term_is text h from to e f g = rw (e, lt-ltb from (2 ^ 32) f, lt-ltb to (2 ^ 32) g) refl
