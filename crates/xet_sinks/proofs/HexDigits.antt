-- Digits, and the bytes that they are of.
use Rattle.std.proofs.Common.{◌≡◌, ℕ, zero, suc, ◌+◌, ◌*◌, ◌/◌, ◌%◌, ◌<◌, ◌≤◌, ◌==◌, ◌&&◌, nat_lt, Bool, true}
use Rattle.std.proofs.Common.{false, List, [], ◌∷◌, ◌++◌, take, drop, length, slice_index, inl, inr, refl, sym, ap}
use Rattle.std.proofs.Common.{arith}
use Rattle.std.proofs.lemmas.Bool.{and_parts, cases_lt, eqb-true, ltb-true, false≢true}
use Rattle.hex.specs.Hex.{IsBytes, encode_lower, encode_with, lower_digits}
use Rattle.xet_sinks.specs.HexText.{value_of, is_hex, all_hex, bytes_of, even}

-- ---- the sixteen digits

abbrev good : ℕ → Bool
good d = (value_of (slice_index lower_digits d) == d) && is_hex (slice_index lower_digits d)

abbrev all_good : ℕ → Bool
all_good zero = true
all_good (suc n) = good n && all_good n

all_good-at : (n k : ℕ) → all_good n ≡ true → k < n → good k ≡ true
all_good-at zero k h lt = absurd (omega arith)
all_good-at (suc n) k h lt =
    let parts = and_parts (good n) (all_good n) h in
    elim (cases_lt k n) [
      | inl below ↦ all_good-at n k parts.1 below
      | inr top ↦
          let e : k ≡ n = omega arith in
          rw e parts.0
    ]

digit_good : (d : ℕ) → d < 16 → good d ≡ true
digit_good d lt = all_good-at 16 d refl lt

-- the digit of a number below 16 has it as its value
pub value_of_digit : (d : ℕ) → d < 16 → value_of (slice_index lower_digits d) ≡ d
value_of_digit d lt = eqb-true _ _ (and_parts (value_of (slice_index lower_digits d) == d)
    (is_hex (slice_index lower_digits d)) (digit_good d lt)).0

pub is_hex_digit : (d : ℕ) → d < 16 → is_hex (slice_index lower_digits d) ≡ true
is_hex_digit d lt = (and_parts (value_of (slice_index lower_digits d) == d) (is_hex (slice_index lower_digits d))
    (digit_good d lt)).1

-- ---- which lists are digits

pub all_hex-append : (xs ys : List ℕ) → all_hex xs ≡ true → all_hex ys ≡ true → all_hex (xs ++ ys) ≡ true
all_hex-append [] ys h k = k
all_hex-append (x ∷ xs) ys h k =
    let p = and_parts (is_hex x) (all_hex xs) h in
    rw (p.0, all_hex-append xs ys p.1 k) refl

pub all_hex-take : (k : ℕ) (xs : List ℕ) → all_hex xs ≡ true → all_hex (take k xs) ≡ true
all_hex-take zero xs h = refl
all_hex-take (suc k) [] h = refl
all_hex-take (suc k) (x ∷ xs) h =
    let p = and_parts (is_hex x) (all_hex xs) h in
    rw (p.0, all_hex-take k xs p.1) refl

pub all_hex-drop : (k : ℕ) (xs : List ℕ) → all_hex xs ≡ true → all_hex (drop k xs) ≡ true
all_hex-drop zero xs h = h
all_hex-drop (suc k) [] h = refl
all_hex-drop (suc k) (x ∷ xs) h = all_hex-drop k xs (and_parts (is_hex x) (all_hex xs) h).1

pub all_hex-at : (k : ℕ) (xs : List ℕ) → k < length xs → all_hex xs ≡ true → is_hex (slice_index xs k) ≡ true
all_hex-at k [] l h = absurd (omega arith)
all_hex-at zero (x ∷ xs) l h = (and_parts (is_hex x) (all_hex xs) h).0
all_hex-at (suc k) (x ∷ xs) l h = all_hex-at k xs (omega arith) (and_parts (is_hex x) (all_hex xs) h).1

bytes_tail : (b : ℕ) (bs : List ℕ) → IsBytes (b ∷ bs) → IsBytes bs
bytes_tail b bs h = λ i. h (suc i)

pub all_hex-encode : (bs : List ℕ) → IsBytes bs → all_hex (encode_lower bs) ≡ true
unfolding encode_with
all_hex-encode [] h = refl
all_hex-encode (b ∷ bs) h =
    let l = h 0 in
    rw (
      is_hex_digit (b / 16) (omega arith),
      is_hex_digit (b % 16) (omega arith),
      all_hex-encode bs
          (bytes_tail b bs h),
    ) refl

-- ---- the bytes of digits

pub bytes_after : (d e : ℕ) (xs ys : List ℕ) → even xs ≡ true → bytes_of d (xs ++ ys) ≡ bytes_of e xs ++ bytes_of d ys
bytes_after d e [] ys h = refl
bytes_after d e (x ∷ []) ys h = absurd (false≢true h)
bytes_after d e (x ∷ y ∷ xs) ys h = ap (λ (zs : List ℕ). (16 * value_of x + value_of y) ∷ zs) (bytes_after d e xs ys h)

pub bytes_owed : (d e : ℕ) (xs : List ℕ) → even xs ≡ false → bytes_of e (xs ++ d ∷ []) ≡ bytes_of d xs
bytes_owed d e [] h = absurd (false≢true (sym h))
bytes_owed d e (x ∷ []) h = refl
bytes_owed d e (x ∷ y ∷ xs) h = ap (λ (zs : List ℕ). (16 * value_of x + value_of y) ∷ zs) (bytes_owed d e xs h)

pub even-append : (xs ys : List ℕ) → even xs ≡ true → even (xs ++ ys) ≡ even ys
even-append [] ys h = refl
even-append (x ∷ []) ys h = absurd (false≢true h)
even-append (x ∷ y ∷ xs) ys h = even-append xs ys h

pub even_owed : (d : ℕ) (xs : List ℕ) → even xs ≡ false → even (xs ++ d ∷ []) ≡ true
even_owed d [] h = absurd (false≢true (sym h))
even_owed d (x ∷ []) h = refl
even_owed d (x ∷ y ∷ xs) h = even_owed d xs h

-- a front of the digits is even as its length is
pub even-take : (k : ℕ) (bs : List ℕ) → k ≤ 2 * length bs → (k % 2 ≡ 0 → even (take k (encode_lower bs)) ≡ true)
    × (k % 2 ≡ 1 → even (take k (encode_lower bs)) ≡ false)
unfolding encode_with
even-take zero bs l = (λ _. refl, λ h. absurd (omega arith))
even-take (suc zero) [] l = absurd (omega arith)
even-take (suc zero) (b ∷ bs) l = (λ h. absurd (omega arith), λ _. refl)
even-take (suc (suc k)) [] l = absurd (omega arith)
even-take (suc (suc k)) (b ∷ bs) l =
    let r = even-take k bs (omega arith) in
    (λ h. r.0 (omega arith), λ h. r.1 (omega arith))

pub byte_back : (b : ℕ) → b < 256 → 16 * value_of (slice_index lower_digits (b / 16)) + value_of
    (slice_index lower_digits (b % 16)) ≡ b
byte_back b l =
    let p = value_of_digit (b / 16) (omega arith) in
    let q = value_of_digit (b % 16) (omega arith) in
    rw (p, q) (omega arith)

-- the bytes of a front of the digits, where the next digit is known
pub bytes_taken : (d k : ℕ) (bs : List ℕ) → IsBytes bs → k ≤ 2 * length bs
    → (k % 2 ≡ 1 → d ≡ slice_index (encode_lower bs) k) → bytes_of d (take k (encode_lower bs)) ≡ take ((k + 1) / 2) bs
unfolding encode_with
bytes_taken d zero bs h l e = refl
bytes_taken d (suc zero) [] h l e = absurd (omega arith)
bytes_taken d (suc zero) (b ∷ bs) h l e = rw (e refl, byte_back b (h 0)) refl
bytes_taken d (suc (suc k)) [] h l e = absurd (omega arith)
bytes_taken d (suc (suc k)) (b ∷ bs) h l e =
    let r = bytes_taken d k bs (bytes_tail b bs h) (omega arith) (λ o. e (omega arith)) in
    let n : (suc (suc k) + 1) / 2 ≡ suc ((k + 1) / 2) = omega arith in
    rw (n, byte_back b (h 0), r) refl

two_back : (a b : ℕ) → b < 16 → ((16 * a + b) / 16 ≡ a) × ((16 * a + b) % 16 ≡ b)
two_back a b l = (omega arith, omega arith)

pub value_below : (x : ℕ) → is_hex x ≡ true → value_of x < 16
value_below x h = ltb-true _ _ (and_parts (nat_lt (value_of x) 16) (slice_index lower_digits (value_of x) == x) h).0

digit_back : (x v : ℕ) → is_hex x ≡ true → v ≡ value_of x → slice_index lower_digits v ≡ x
digit_back x v h e = rw e (eqb-true _ _ (and_parts (nat_lt (value_of x) 16)
    (slice_index lower_digits (value_of x) == x) h).1)

-- the digits of the bytes of some digits
pub text_back : (d : ℕ) (xs : List ℕ) → is_hex d ≡ true → all_hex xs ≡ true → (length xs ≤ 2 * length (bytes_of d xs))
    × (xs ≡ take (length xs) (encode_lower (bytes_of d xs)))
unfolding encode_with
text_back d [] h k = (omega arith, refl)
text_back d (x ∷ []) h k =
    let p = and_parts (is_hex x) true k in
    let e = digit_back x ((16 * value_of x + value_of d) / 16) p.0
    (two_back (value_of x) (value_of d) (value_below d h)).0 in
    (omega arith, rw e refl)
text_back d (x ∷ y ∷ xs) h k =
    let p = and_parts (is_hex x) (all_hex (y ∷ xs)) k in
    let q = and_parts (is_hex y) (all_hex xs) p.1 in
    let t = two_back (value_of x) (value_of y) (value_below y q.0) in
    let e = digit_back x ((16 * value_of x + value_of y) / 16) p.0 t.0 in
    let f = digit_back y ((16 * value_of x + value_of y) % 16) q.0 t.1 in
    let r = text_back d xs h q.1 in
    let l = r.0 in
    (omega arith, sym (rw (e, f) (ap (λ (zs : List ℕ). x ∷ y ∷ zs) (sym r.1))))

pub length-bytes : (d : ℕ) (xs : List ℕ) → even xs ≡ true → length (bytes_of d xs) ≡ length xs / 2
length-bytes d [] h = refl
length-bytes d (x ∷ []) h = absurd (false≢true h)
length-bytes d (x ∷ y ∷ xs) h = let r = length-bytes d xs h in omega arith

pub length-even : (xs : List ℕ) → even xs ≡ true → length xs % 2 ≡ 0
length-even [] h = refl
length-even (x ∷ []) h = absurd (false≢true h)
length-even (x ∷ y ∷ xs) h = let r = length-even xs h in omega arith
