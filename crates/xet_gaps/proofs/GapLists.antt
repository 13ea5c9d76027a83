-- Gaps less a range are gaps, parts are gaps, and gaps are known by their bytes.
use Rattle.std.proofs.Common.{◌≡◌, ℕ, ◌+◌, ◌<◌, ◌≤◌, ◌⊎◌, ◌||◌, max, min, Bool, true, false, cond, List, [], ◌∷◌, ◌++◌}
use Rattle.std.proofs.Common.{refl, sym, ap, subst, ◌∙◌, ⊎_elim, arith, append_assoc, nat_lt}
use Rattle.std.specs.List.{flat_map}
use Rattle.std.proofs.lemmas.Bool.{cases_order, cases_lt, false≢true, ltb-false, ltb-true}
use Rattle.xet_base.specs.declared.cas_types.FileRange.{FileRange}
use Rattle.xet_gaps.specs.Gaps.{AreGaps, around, is_in, is_missing, less, parts_of, some_range}
use Rattle.xet_gaps.specs.Laws.{LessAreGaps, SameBytesSameGaps}
use Rattle.xet_gaps.proofs.GapBytes.{is_after, is_before, is_inside, none_below, range}

-- gaps from a place on are gaps from a lower one on
pub lower : (low place end : ℕ) (gs : List FileRange) → place ≤ low → AreGaps low end gs → AreGaps place end gs
lower low place end [] h a = tt
lower low place end (g ∷ gs) h a = let first : low ≤ g.start = a.0 in (omega (arith, h, first), a.1, a.2, a.3)

-- a range that may have bytes, and gaps behind it
some_then : (low end a b : ℕ) (rest : List FileRange) → low ≤ a → b ≤ end → (a < b → AreGaps (b + 1) end rest)
    → (b ≤ a → AreGaps low end rest) → AreGaps low end (some_range a b ++ rest)
some_then low end a b rest first last more none = by (nat_lt a b) refl
  where
    by : (v : Bool) → nat_lt a b ≡ v → AreGaps low end (cond v (range a b ∷ []) [] ++ rest)
    by true e = let h = ltb-true a b e in (first, h, last, more h)
    by false e = none (ltb-false a b e)

flat_gaps : (r : FileRange) (low end : ℕ) (gs : List FileRange) → r.start < r.end → AreGaps low end gs
    → AreGaps low end (flat_map (around r) gs)
flat_gaps r low end [] some a = tt
flat_gaps r low end (g ∷ gs) some a =
    let first : low ≤ g.start = a.0 in
    let has : g.start < g.end = a.1 in
    let last : g.end ≤ end = a.2 in
    let rest : List FileRange = flat_map (around r) gs in
    let are : AreGaps (g.end + 1) end (flat_map (around r) gs) = flat_gaps r (g.end + 1) end gs some a.3 in
    subst (AreGaps low end)
    (sym (append_assoc (some_range g.start (min g.end r.start)) (some_range (max g.start r.end) g.end) (flat_map (around r) gs)))
    (some_then low end g.start (min g.end r.start) (some_range (max g.start r.end) g.end ++ flat_map (around r) gs) first
    (omega (arith, last))
    (λ h. some_then (min g.end r.start + 1) end (max g.start r.end) g.end (flat_map (around r) gs) (omega (arith, some)) last
    (λ _. are) (λ _. lower (g.end + 1) (min g.end r.start + 1) end (flat_map (around r) gs) (omega arith) are))
    (λ _. some_then low end (max g.start r.end) g.end (flat_map (around r) gs) (omega (arith, first)) last
    (λ _. are) (λ _. lower (g.end + 1) low end (flat_map (around r) gs) (omega (arith, first, has)) are)))

pub less_gaps : LessAreGaps
less_gaps gs r end a = by (nat_lt r.start r.end) refl
  where
    by : (v : Bool) → nat_lt r.start r.end ≡ v → AreGaps 0 end (cond v (flat_map (around r) gs) gs)
    by true e = flat_gaps r 0 end gs (ltb-true r.start r.end e) a
    by false e = a

-- parts are gaps inside the range
pub parts_are : (r : FileRange) (low end : ℕ) (gs : List FileRange) → AreGaps low end gs
    → AreGaps (max low r.start) (min end r.end) (parts_of gs r)
parts_are r low end [] a = tt
parts_are r low end (g ∷ gs) a =
    let first : low ≤ g.start = a.0 in
    let has : g.start < g.end = a.1 in
    let last : g.end ≤ end = a.2 in
    let are = parts_are r (g.end + 1) end gs a.3 in
    some_then (max low r.start) (min end r.end) (max g.start r.start) (min g.end r.end) (parts_of gs r)
    (omega (arith, first)) (omega (arith, last))
    (λ h. lower (max (g.end + 1) r.start) (min g.end r.end + 1) (min end r.end) (parts_of gs r) (omega arith) are)
    (λ _. lower (max (g.end + 1) r.start) (max low r.start) (min end r.end) (parts_of gs r) (omega (arith, first, has)) are)

-- ---- gaps with the same bytes

-- a first gap has its first byte, and more gaps behind it don't matter
first_in : (g : FileRange) (gs : List FileRange) (p : ℕ) → g.start ≤ p → p < g.end → is_missing p (g ∷ gs) ≡ true
first_in g gs p low high = ap (λ (b : Bool). b || is_missing p gs) (is_inside p g low high)

-- nothing below a first gap is missing, nor at its end
below_first : (low end : ℕ) (g : FileRange) (gs : List FileRange) (p : ℕ) → AreGaps low end (g ∷ gs) → p < g.start
    → is_missing p (g ∷ gs) ≡ false
below_first low end g gs p a h =
    let some : g.start < g.end = a.1 in
    ap (λ (b : Bool). b || is_missing p gs) (is_before p g h)
    ∙ none_below (g.end + 1) end gs p a.3 (omega (arith, h, some))

at_end : (low end : ℕ) (g : FileRange) (gs : List FileRange) → AreGaps low end (g ∷ gs) → is_missing g.end (g ∷ gs) ≡ false
at_end low end g gs a =
    ap (λ (b : Bool). b || is_missing g.end gs) (is_after g.end g (omega arith))
    ∙ none_below (g.end + 1) end gs g.end a.3 (omega arith)

differ : (x y : Bool) → x ≡ y → x ≡ false → y ≡ true → ⊥
differ x y e f t = false≢true (sym f ∙ e ∙ t)

-- of two first gaps neither starts before the other
starts : (low end : ℕ) (g h : FileRange) (gs hs : List FileRange) → AreGaps low end (g ∷ gs) → AreGaps low end (h ∷ hs)
    → ((p : ℕ) → is_missing p (g ∷ gs) ≡ is_missing p (h ∷ hs)) → g.start < h.start → ⊥
starts low end g h gs hs a b same k =
    let some : g.start < g.end = a.1 in
    differ (is_missing g.start (h ∷ hs)) (is_missing g.start (g ∷ gs)) (sym (same g.start))
    (below_first low end h hs g.start b k) (first_in g gs g.start (omega arith) some)

-- nor ends before it
ends : (low end : ℕ) (g h : FileRange) (gs hs : List FileRange) → AreGaps low end (g ∷ gs) → AreGaps low end (h ∷ hs)
    → ((p : ℕ) → is_missing p (g ∷ gs) ≡ is_missing p (h ∷ hs)) → g.start ≡ h.start → g.end < h.end → ⊥
ends low end g h gs hs a b same e k =
    let some : g.start < g.end = a.1 in
    differ (is_missing g.end (g ∷ gs)) (is_missing g.end (h ∷ hs)) (same g.end)
    (at_end low end g gs a) (first_in h hs g.end (omega (arith, e, some)) k)

equal : (m n : ℕ) → (m < n → ⊥) → (n < m → ⊥) → m ≡ n
equal m n f k =
    ⊎_elim (λ (e : m ≡ n). e) (λ (o : (m < n) ⊎ (n < m)). ⊎_elim (λ (h : m < n). absurd (f h)) (λ (h : n < m). absurd (k h)) o) (cases_order m n)

-- the others have the same bytes
others : (low end : ℕ) (g h : FileRange) (gs hs : List FileRange) → AreGaps low end (g ∷ gs) → AreGaps low end (h ∷ hs)
    → ((p : ℕ) → is_missing p (g ∷ gs) ≡ is_missing p (h ∷ hs)) → g.end ≡ h.end
    → (p : ℕ) → is_missing p gs ≡ is_missing p hs
others low end g h gs hs a b same e p =
    ⊎_elim
    (λ (k : p < g.end + 1). none_below (g.end + 1) end gs p a.3 k
    ∙ sym (none_below (h.end + 1) end hs p b.3 (omega (arith, k, e))))
    (λ (k : g.end + 1 ≤ p).
    sym (ap (λ (v : Bool). v || is_missing p gs) (is_after p g (omega (arith, k)))) ∙ same p
    ∙ ap (λ (v : Bool). v || is_missing p hs) (is_after p h (omega (arith, k, e))))
    (cases_lt p (g.end + 1))

same_from : (low end : ℕ) (gs hs : List FileRange) → AreGaps low end gs → AreGaps low end hs
    → ((p : ℕ) → is_missing p gs ≡ is_missing p hs) → gs ≡ hs
same_from low end [] [] a b same = refl
same_from low end [] (h ∷ hs) a b same =
    let some : h.start < h.end = b.1 in
    absurd (differ (is_missing h.start []) (is_missing h.start (h ∷ hs)) (same h.start) refl
    (first_in h hs h.start (omega arith) some))
same_from low end (g ∷ gs) [] a b same =
    let some : g.start < g.end = a.1 in
    absurd (differ (is_missing g.start []) (is_missing g.start (g ∷ gs)) (sym (same g.start)) refl
    (first_in g gs g.start (omega arith) some))
same_from low end (g ∷ gs) (h ∷ hs) a b same =
    let s : g.start ≡ h.start =
    equal g.start h.start (starts low end g h gs hs a b same) (starts low end h g hs gs b a (λ p. sym (same p))) in
    let e : g.end ≡ h.end =
    equal g.end h.end (ends low end g h gs hs a b same s) (ends low end h g hs gs b a (λ p. sym (same p)) (sym s)) in
    let rest : gs ≡ hs =
    same_from (g.end + 1) end gs hs a.3 (subst (λ (n : ℕ). AreGaps (n + 1) end hs) (sym e) b.3)
    (others low end g h gs hs a b same e) in
    ap (λ (n : ℕ). range n g.end ∷ gs) s ∙ ap (λ (n : ℕ). range h.start n ∷ gs) e ∙ ap (λ (l : List FileRange). h ∷ l) rest

pub same_gaps : SameBytesSameGaps
same_gaps gs hs end a b same = same_from 0 end gs hs a b same
