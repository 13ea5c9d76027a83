-- Values without a float: numbers, and what holds a further value.
use Rattle.std.proofs.Common.{◌≡◌, ℕ, ◌<◌, ◌≤◌, ◌^◌, ◌==◌, true, false, List, [], ◌∷◌, ◌++◌, length, drop, Ordering, Less, Equal, Greater, nat_cmp, Option, Some, None, SomeIff, is_some, refl}
use Rattle.std.specs.Prelude.{slice_index}
use Rattle.std.specs.Cmp.Lexicographic.{slice_cmp}
use Rattle.std.specs.Ordering.{match_ordering}
use Rattle.std.proofs.lemmas.Bool.{false≢true, lt-ltb, le-leb, or_parts}
use Rattle.fast_float.specs.Text.{IsInteger, digits_of, minus, scan, with_sign}
use Rattle.serde_json.specs.Data.{Data, Members, no_items, member, no_members, negative, put, unsigned}
use Rattle.serde_json.specs.Read.{number_of}
use Rattle.serde_json.specs.Written.{has_float, items_have_float, members_have_float}
use Rattle.xet_document.specs.steps.Reads.{IsWhole}
use Rattle.xet_document.proofs.Arrays.{behind}

-- ---- numbers

-- digits without a sign
whole_unsigned : (s : List ℕ) → (slice_index s 0 == minus) ≡ false → IsInteger (scan s) → digits_of (scan s) < 2 ^ 64 → IsWhole s
unfolding number_of
whole_unsigned s sign i small =
    (unsigned (digits_of (scan s)), rw (sign, lt-ltb 0 (length (scan s).whole) i.0, i.1, i.2, lt-ltb (digits_of (scan s)) (2 ^ 64) small) refl, refl)

-- as the kit reads them
pub whole_some : (s : List ℕ) (o : Option ℕ) → (slice_index s 0 == minus) ≡ false → SomeIff o (IsInteger (scan s) × (digits_of (scan s) < 2 ^ 64)) (digits_of (scan s)) → is_some o ≡ true → IsWhole s
whole_some s None sign h e = absurd (false≢true e)
whole_some s (Some n) sign h e = whole_unsigned s sign h.0.0 h.0.1

-- digits behind a minus, which aren't zero
pub whole_negative : (s : List ℕ) → (slice_index s 0 == minus) ≡ true → IsInteger (scan (drop 1 s)) → 0 < digits_of (scan (drop 1 s)) → digits_of (scan (drop 1 s)) ≤ 2 ^ 63 → IsWhole s
unfolding number_of
whole_negative s sign i some small =
    let p = scan (drop 1 s) in
    (negative (with_sign true (digits_of p)), rw (sign, lt-ltb 0 (length p.whole) i.0, i.1, i.2, lt-ltb 0 (digits_of p) some, le-leb (digits_of p) (2 ^ 63) small) refl, refl)

-- ---- items and members

-- one more item
pub item_free : (read : List Data) (d : Data) → items_have_float (behind read no_items) ≡ false → has_float d ≡ false → items_have_float (behind (read ++ d ∷ []) no_items) ≡ false
item_free [] d e f = rw f refl
item_free (c ∷ read) d e f =
    let both = or_parts (has_float c) (items_have_float (behind read no_items)) e in
    rw both.0 (item_free read d both.1 f)

-- one more member
pub member_free : (k : List ℕ) (d : Data) (ms : Members) → members_have_float ms ≡ false → has_float d ≡ false → members_have_float (put k d ms) ≡ false
member_free k d no_members e f = rw f refl
member_free k d (member l c ms) e f = go (slice_cmp nat_cmp k l) (member_free k d ms both.1 f)
  where
    both : (has_float c ≡ false) × (members_have_float ms ≡ false)
    both = or_parts (has_float c) (members_have_float ms) e

    go : (o : Ordering) → members_have_float (put k d ms) ≡ false → members_have_float (match_ordering o (member k d (member l c ms)) (member l d ms) (member l c (put k d ms))) ≡ false
    go Less rest = rw (f, both.0) both.1
    go Equal rest = rw f both.1
    go Greater rest = rw both.0 rest
