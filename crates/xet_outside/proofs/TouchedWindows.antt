-- The touched chunks of a file, joined and cut, are the window.
use Rattle.std.proofs.Common.{◌≡◌, ℕ, zero, suc, ◌+◌, ◌-◌, ◌≤◌, ◌<◌, Bool, true, false, cond, List, [], ◌∷◌, ◌++◌, length, take, drop, min, max, refl, sym, ◌∙◌, ap, arith, ◌⊎◌, inl, inr, ⊎_elim}
use Rattle.std.specs.Prelude.{Some, find, option_map, unwrap_or}
use Rattle.std.specs.List.{concat}
use Rattle.std.proofs.lemmas.Bool.{ltb-true, ltb-false, cases_lt}
use Rattle.std.proofs.lemmas.List.{drop_all, drop-append-le, length-drop}
use Rattle.xet_base.specs.declared.cas_types.FileRange.{FileRange}
use Rattle.xet_base.specs.Lists.{placed}
use Rattle.xet_base.proofs.CallerLemmas.{take-append, drop-append, drop-nil}
use Rattle.xet_outside.specs.Plan.{touches, lengths}

-- the touched ones of chunks that stand from a place on
abbrev pub touched : FileRange → ℕ → List (List ℕ) → List (List ℕ)
touched q p [] = []
touched q p (c ∷ cs) = cond (touches q (p, length c)) (c ∷ touched q (p + length c) cs) (touched q (p + length c) cs)

-- how far into the first touched chunk the range starts
abbrev pub offset_in : FileRange → ℕ → List (List ℕ) → ℕ
offset_in q p cs = unwrap_or (option_map (λ c. q.start - c.0) (find (touches q) (placed p (lengths cs)))) 0

-- one chunk more, where the place is past the range's start
after_step : (q : FileRange) (p : ℕ) (c : List ℕ) (ts cs : List (List ℕ)) → q.start ≤ p
    → take (q.end - (p + length c)) (concat ts) ≡ take (q.end - (p + length c)) (concat cs)
    → (b : Bool) → touches q (p, length c) ≡ b
    → take (q.end - p) (concat (cond b (c ∷ ts) ts)) ≡ take (q.end - p) (c ++ concat cs)
after_step q p c ts cs h next true e =
    let k : q.end - (p + length c) ≡ (q.end - p) - length c = omega arith in
    let l = take-append (q.end - p) c (concat ts) in
    let r = take-append (q.end - p) c (concat cs) in
    cc
after_step q p c ts cs h next false e =
    let no : min (p + length c) q.end ≤ max p q.start = ltb-false _ _ e in
    let k : q.end - (p + length c) ≡ q.end - p = omega arith in
    let j : (q.end - p) - length c ≡ q.end - p = omega arith in
    let none : take (q.end - p) c ≡ [] = nothing (q.end - p) c (omega arith) in
    let r = take-append (q.end - p) c (concat cs) in
    cc
  where
    nothing : (n : ℕ) (xs : List ℕ) → min n (length xs) ≡ 0 → take n xs ≡ []
    nothing zero xs z = refl
    nothing (suc n) [] z = refl
    nothing (suc n) (x ∷ xs) z = absurd (omega arith)

-- from a place past the range's start on, the touched chunks have the bytes that all have, up to the range's end
pub touched_after : (q : FileRange) (p : ℕ) (cs : List (List ℕ)) → q.start ≤ p → take (q.end - p) (concat (touched q p cs)) ≡ take (q.end - p) (concat cs)
touched_after q p [] h = refl
touched_after q p (c ∷ cs) h =
    after_step q p c (touched q (p + length c) cs) cs h (touched_after q (p + length c) cs (omega arith)) (touches q (p, length c)) refl

-- one chunk more, where the place is not past the range's start
before_step : (q : FileRange) (p : ℕ) (c : List ℕ) (ts cs : List (List ℕ)) (o : ℕ) → p ≤ q.start
    → (p + length c ≤ q.start → take (q.end - q.start) (drop o (concat ts)) ≡ take (q.end - q.start) (drop (q.start - (p + length c)) (concat cs)))
    → (q.start ≤ p + length c → take (q.end - (p + length c)) (concat ts) ≡ take (q.end - (p + length c)) (concat cs))
    → (b : Bool) → touches q (p, length c) ≡ b
    → take (q.end - q.start) (drop (cond b (q.start - p) o) (concat (cond b (c ∷ ts) ts))) ≡ take (q.end - q.start) (drop (q.start - p) (c ++ concat cs))
before_step q p c ts cs o h below above true e =
    let yes : max p q.start < min (p + length c) q.end = ltb-true _ _ e in
    let next = above (omega arith) in
    let d1 = drop-append-le (q.start - p) c (concat ts) (omega arith) in
    let d2 = drop-append-le (q.start - p) c (concat cs) (omega arith) in
    let t1 = take-append (q.end - q.start) (drop (q.start - p) c) (concat ts) in
    let t2 = take-append (q.end - q.start) (drop (q.start - p) c) (concat cs) in
    let k : (q.end - q.start) - length (drop (q.start - p) c) ≡ q.end - (p + length c) = omega (arith, length-drop (q.start - p) c) in
    cc
before_step q p c ts cs o h below above false e = ⊎_elim
    (λ (w : q.end ≤ q.start). let z : q.end - q.start ≡ 0 = omega arith in rw z)
    (λ (w : q.start < q.end).
    let no : min (p + length c) q.end ≤ max p q.start = ltb-false _ _ e in
    let next = below (omega arith) in
    let k : (q.start - p) - length c ≡ q.start - (p + length c) = omega arith in
    let d = drop-append (q.start - p) c (concat cs) in
    let n : drop (q.start - p) c ≡ [] = drop_all (q.start - p) c (omega arith) in
    cc)
    (cases_le q.end q.start)
  where
    cases_le : (a b : ℕ) → (a ≤ b) ⊎ (b < a)
    cases_le a b = swap (cases_lt b a)
      where
        swap : (b < a) ⊎ (a ≤ b) → (a ≤ b) ⊎ (b < a)
        swap (inl x) = inr x
        swap (inr y) = inl y

-- the touched chunks, less the offset and up to the range's length, are the part that the range asks for
pub touched_part : (q : FileRange) (p : ℕ) (cs : List (List ℕ)) → p ≤ q.start
    → take (q.end - q.start) (drop (offset_in q p cs) (concat (touched q p cs))) ≡ take (q.end - q.start) (drop (q.start - p) (concat cs))
touched_part q p [] h = ap (λ (xs : List ℕ). take (q.end - q.start) xs) (drop-nil (offset_in q p []) ∙ sym (drop-nil (q.start - p)))
touched_part q p (c ∷ cs) h =
    ap (λ (o : ℕ). take (q.end - q.start) (drop o (concat (touched q p (c ∷ cs))))) (offset_step (touches q (p, length c)))
    ∙ before_step q p c (touched q (p + length c) cs) cs (offset_in q (p + length c) cs) h
    (touched_part q (p + length c) cs) (touched_after q (p + length c) cs) (touches q (p, length c)) refl
  where
    offset_step : (b : Bool) → unwrap_or (option_map (λ (c : ℕ × ℕ). q.start - c.0) (cond b (Some (p, length c)) (find (touches q) (placed (p + length c) (lengths cs))))) 0 ≡ cond b (q.start - p) (offset_in q (p + length c) cs)
    offset_step true = refl
    offset_step false = refl
