-- The chunks of a plan's terms are the touched chunks of the file.
use Rattle.std.proofs.Common.{◌≡◌, ℕ, suc, ◌+◌, ◌-◌, ◌≤◌, ◌<◌, Bool, true, false, cond, List, [], ◌∷◌, length, take, drop, min, max, refl, sym, ◌∙◌, ap, arith, ⊎_elim}
use Rattle.std.specs.Prelude.{count_by, sum, All, slice_range}
use Rattle.std.specs.List.{concat}
use Rattle.std.proofs.lemmas.Bool.{ltb-true, ltb-false, leb-true, lt-ltb, le-ltb, le-leb, lt-leb, cases_lt}
use Rattle.std.proofs.lemmas.List.{length-append, length-take, take-take, drop-take, drop-drop}
use Rattle.std.proofs.lemmas.List.Sums.{sum_by-cons}
use Rattle.std.proofs.lemmas.List.Elements.{All-head, All-tail}
use Rattle.xet_base.specs.declared.cas_types.FileRange.{FileRange}
use Rattle.xet_base.specs.declared.stored.StoredTerm.{StoredTerm}
use Rattle.xet_base.specs.Lists.{placed}
use Rattle.xet_base.specs.Store.{Store, chunks_of, chunks_of_term}
use Rattle.xet_outside.specs.declared.plan.PlanTerm.{PlanTerm}
use Rattle.xet_outside.specs.Plan.{touches, ends_before, lengths, cut_term}
use Rattle.xet_outside.proofs.TouchedWindows.{touched}

-- each chunk has a byte
abbrev pub Full : List (List ℕ) → Type 0
Full cs = All (λ c. 0 < length c) cs

pub sum_lengths : (cs : List (List ℕ)) → sum (lengths cs) ≡ length (concat cs)
sum_lengths [] = refl
sum_lengths (c ∷ cs) =
    sum_by-cons (λ x. x) (length c) (lengths cs) ∙ ap (λ n. length c + n) (sum_lengths cs) ∙ sym (length-append c (concat cs))

pub count_by-cons : {X : Type 0} (p : X → Bool) (x : X) (xs : List X) → count_by p (x ∷ xs) ≡ cond (p x) 1 0 + count_by p xs
count_by-cons p x xs = sum_by-cons (λ x. cond (p x) 1 0) x xs

pub count_by-yes : {X : Type 0} (p : X → Bool) (x : X) (xs : List X) → p x ≡ true → count_by p (x ∷ xs) ≡ suc (count_by p xs)
count_by-yes p x xs e = rw (count_by-cons p x xs, e) (omega arith)

pub count_by-no : {X : Type 0} (p : X → Bool) (x : X) (xs : List X) → p x ≡ false → count_by p (x ∷ xs) ≡ count_by p xs
count_by-no p x xs e = rw (count_by-cons p x xs, e) (omega arith)

-- how many chunks end before the range, and how many it touches
abbrev pub skips : FileRange → ℕ → List (List ℕ) → ℕ
skips q p cs = count_by (ends_before q) (placed p (lengths cs))

abbrev pub keeps : FileRange → ℕ → List (List ℕ) → ℕ
keeps q p cs = count_by (touches q) (placed p (lengths cs))

-- past the range's end nothing is touched
pub touched_past : (q : FileRange) (p : ℕ) (cs : List (List ℕ)) → q.end ≤ p → (touched q p cs ≡ []) × (keeps q p cs ≡ 0)
touched_past q p [] h = (refl, refl)
touched_past q p (c ∷ cs) h =
    let no : touches q (p, length c) ≡ false = le-ltb (max p q.start) (min (p + length c) q.end) (omega arith) in
    let next = touched_past q (p + length c) cs (omega arith) in
    (rw no next.0, count_by-no (touches q) (p, length c) (placed (p + length c) (lengths cs)) no ∙ next.1)

-- past the range's start none ends before it
pub skips_past : (q : FileRange) (p : ℕ) (cs : List (List ℕ)) → Full cs → q.start ≤ p → skips q p cs ≡ 0
skips_past q p [] f h = refl
skips_past q p (c ∷ cs) f h =
    let some : 0 < length c = All-head (λ c. 0 < length c) c cs f in
    let no : ends_before q (p, length c) ≡ false = lt-leb (p + length c) q.start (omega arith) in
    count_by-no (ends_before q) (p, length c) (placed (p + length c) (lengths cs)) no
    ∙ skips_past q (p + length c) cs (All-tail (λ c. 0 < length c) c cs f) (omega arith)

-- past the range's start the touched chunks are the first ones
touched_first : (q : FileRange) (p : ℕ) (cs : List (List ℕ)) → Full cs → q.start ≤ p → touched q p cs ≡ take (keeps q p cs) cs
touched_first q p [] f h = refl
touched_first q p (c ∷ cs) f h =
    let some : 0 < length c = All-head (λ c. 0 < length c) c cs f in
    let next = touched_first q (p + length c) cs (All-tail (λ c. 0 < length c) c cs f) (omega arith) in
    ⊎_elim
    (λ (w : p < q.end).
    let yes : touches q (p, length c) ≡ true = lt-ltb (max p q.start) (min (p + length c) q.end) (omega arith) in
    rw (yes, count_by-yes (touches q) (p, length c) (placed (p + length c) (lengths cs)) yes) (ap (λ r. c ∷ r) next))
    (λ (w : q.end ≤ p).
    let past = touched_past q p (c ∷ cs) w in
    past.0 ∙ ap (λ (n : ℕ). take n (c ∷ cs)) (sym past.1))
    (cases_lt p q.end)

-- the same where the first chunk ends past the range's start
touched_head : (q : FileRange) (p : ℕ) (c : List ℕ) (cs : List (List ℕ)) → 0 < length c → Full cs → q.start < p + length c
    → (b : Bool) → touches q (p, length c) ≡ b → touched q p (c ∷ cs) ≡ take (keeps q p (c ∷ cs)) (c ∷ cs)
touched_head q p c cs some f w true e =
    rw (e, count_by-yes (touches q) (p, length c) (placed (p + length c) (lengths cs)) e)
    (ap (λ r. c ∷ r) (touched_first q (p + length c) cs f (omega arith)))
touched_head q p c cs some f w false e =
    let no : min (p + length c) q.end ≤ max p q.start = ltb-false _ _ e in
    let past = touched_past q (p + length c) cs (omega arith) in
    let none : keeps q p (c ∷ cs) ≡ 0 = count_by-no (touches q) (p, length c) (placed (p + length c) (lengths cs)) e ∙ past.1 in
    rw e past.0 ∙ ap (λ (n : ℕ). take n (c ∷ cs)) (sym none)

-- the touched chunks are those after the ones that end before the range
pub touched_is : (q : FileRange) (p : ℕ) (cs : List (List ℕ)) → Full cs → touched q p cs ≡ take (keeps q p cs) (drop (skips q p cs) cs)
touched_is q p [] f = refl
touched_is q p (c ∷ cs) f =
    let some : 0 < length c = All-head (λ c. 0 < length c) c cs f in
    let full = All-tail (λ c. 0 < length c) c cs f in
    ⊎_elim
    (λ (w : q.start < p + length c).
    let none : ends_before q (p, length c) ≡ false = lt-leb (p + length c) q.start w in
    let skip : skips q p (c ∷ cs) ≡ 0 = count_by-no (ends_before q) (p, length c) (placed (p + length c) (lengths cs)) none ∙ skips_past q (p + length c) cs full (omega arith) in
    touched_head q p c cs some full w (touches q (p, length c)) refl ∙ sym (ap (λ (n : ℕ). take (keeps q p (c ∷ cs)) (drop n (c ∷ cs))) skip))
    (λ (w : p + length c ≤ q.start).
    let yes : ends_before q (p, length c) ≡ true = le-leb (p + length c) q.start w in
    let no : touches q (p, length c) ≡ false = le-ltb (max p q.start) (min (p + length c) q.end) (omega arith) in
    rw (no, count_by-yes (ends_before q) (p, length c) (placed (p + length c) (lengths cs)) yes, count_by-no (touches q) (p, length c) (placed (p + length c) (lengths cs)) no) (touched_is q (p + length c) cs full))
    (cases_lt q.start (p + length c))

-- no chunk both ends before the range and is touched
pub skips-keeps : (q : FileRange) (p : ℕ) (cs : List (List ℕ)) → skips q p cs + keeps q p cs ≤ length cs
skips-keeps q p [] = omega arith
skips-keeps q p (c ∷ cs) =
    let next = skips-keeps q (p + length c) cs in
    let a = count_by-cons (ends_before q) (p, length c) (placed (p + length c) (lengths cs)) in
    let b = count_by-cons (touches q) (p, length c) (placed (p + length c) (lengths cs)) in
    let one : cond (ends_before q (p, length c)) 1 0 + cond (touches q (p, length c)) 1 0 ≤ 1 = one_only (ends_before q (p, length c)) (touches q (p, length c)) refl refl in
    omega (arith, next, a, b, one)
  where
    one_only : (x y : Bool) → ends_before q (p, length c) ≡ x → touches q (p, length c) ≡ y → cond x 1 0 + cond y 1 0 ≤ 1
    one_only false false e f = omega arith
    one_only false true e f = omega arith
    one_only true false e f = omega arith
    one_only true true e f =
        let h : p + length c ≤ q.start = leb-true _ _ e in
        let k : max p q.start < min (p + length c) q.end = ltb-true _ _ f in
        absurd (omega arith)

-- a part of a part of a list
slice_range-inner : {A : Type 0} (xs : List A) (from to k m : ℕ) → k + m ≤ to - from
    → slice_range xs (from + k) (from + k + m) ≡ take m (drop k (slice_range xs from to))
slice_range-inner xs from to k m h =
    let e1 : (from + k + m) - (from + k) ≡ m = omega arith in
    let e2 = drop-drop k from xs in
    let n : k + ((to - from) - k) ≡ to - from = omega arith in
    let e3 = drop-take k ((to - from) - k) (drop from xs) in
    let e4 = take-take m ((to - from) - k) (drop k (drop from xs)) (omega arith) in
    cc

-- the bytes of a plan's term
abbrev pub term_bytes : Store → PlanTerm → List ℕ
term_bytes s t = concat (slice_range (chunks_of s t.xorb) t.range.start t.range.end)

-- the cut part of a term's chunks is the touched ones
pub cut_slice : (xs : List (List ℕ)) (q : FileRange) (p from to : ℕ) → Full (slice_range xs from to)
    → slice_range xs (from + skips q p (slice_range xs from to)) (from + skips q p (slice_range xs from to) + keeps q p (slice_range xs from to)) ≡ touched q p (slice_range xs from to)
cut_slice xs q p from to f =
    let cs = slice_range xs from to in
    let k = skips q p cs in
    let m = keeps q p cs in
    let bound = skips-keeps q p cs in
    let size = length-take (to - from) (drop from xs) in
    let fits : k + m ≤ to - from = omega arith in
    slice_range-inner xs from to k m fits ∙ sym (touched_is q p cs f)

-- a cut term has the touched chunks of its term
pub cut_chunks : (s : Store) (q : FileRange) (p : ℕ) (t : StoredTerm) → Full (chunks_of_term s t)
    → term_bytes s (cut_term s q (p, t)) ≡ concat (touched q p (chunks_of_term s t))
cut_chunks s q p t f = ap concat (cut_slice (chunks_of s t.xorb) q p t.from t.to f)
