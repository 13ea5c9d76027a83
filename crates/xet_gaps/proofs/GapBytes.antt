-- Which bytes gaps have, less a range and in common with it.
use Rattle.std.proofs.Common.{◌≡◌, ℕ, ◌+◌, ◌<◌, ◌≤◌, ◌&&◌, ◌||◌, not, max, min, Bool, true, false, cond, List, [], ◌∷◌, ◌++◌}
use Rattle.std.proofs.Common.{refl, sym, ap, ◌∙◌, ⊎_elim, arith, nat_le, nat_lt}
use Rattle.std.specs.List.{flat_map, list_any}
use Rattle.std.proofs.lemmas.Bool.{and_parts, and_right, cases_lt, le-leb, le-ltb, leb-true, lt-leb, lt-ltb, ltb-false, ltb-true}
use Rattle.std.proofs.lemmas.List.Folds.{list_any-append}
use Rattle.xet_base.specs.declared.cas_types.FileRange.{FileRange}
use Rattle.xet_gaps.specs.Gaps.{AreGaps, around, is_in, is_missing, less, parts_of, some_range}
use Rattle.xet_gaps.specs.Laws.{LessIsExact, PartsAreExact}

abbrev pub range : ℕ → ℕ → FileRange
range a b = record { start = a; end = b }

-- ---- one range

pub is_inside : (p : ℕ) (r : FileRange) → r.start ≤ p → p < r.end → is_in p r ≡ true
is_inside p r low high = ap (λ (b : Bool). b && nat_lt p r.end) (le-leb r.start p low) ∙ lt-ltb p r.end high

pub is_before : (p : ℕ) (r : FileRange) → p < r.start → is_in p r ≡ false
is_before p r h = ap (λ (b : Bool). b && nat_lt p r.end) (lt-leb r.start p h)

pub is_after : (p : ℕ) (r : FileRange) → r.end ≤ p → is_in p r ≡ false
is_after p r h = and_right (nat_le r.start p) (nat_lt p r.end) (le-ltb p r.end h)

pub in_parts : (p : ℕ) (r : FileRange) → is_in p r ≡ true → (r.start ≤ p) × (p < r.end)
in_parts p r h =
    let b = and_parts (nat_le r.start p) (nat_lt p r.end) h in
    (leb-true r.start p b.0, ltb-true p r.end b.1)

-- a range without bytes
none_in : (p : ℕ) (r : FileRange) → r.end ≤ r.start → is_in p r ≡ false
none_in p r h =
    ⊎_elim (λ (l : p < r.start). is_before p r l) (λ (l : r.start ≤ p). is_after p r (omega (arith, h, l)))
    (cases_lt p r.start)

or_none : (b : Bool) → (b || false) ≡ b
or_none true = refl
or_none false = refl

and_all : (b : Bool) → (b && true) ≡ b
and_all true = refl
and_all false = refl

and_none : (b : Bool) → (b && false) ≡ false
and_none true = refl
and_none false = refl

-- a range that may have bytes
some_in : (p a b : ℕ) → is_missing p (some_range a b) ≡ is_in p (range a b)
some_in p a b = by (nat_lt a b) refl
  where
    by : (v : Bool) → nat_lt a b ≡ v → is_missing p (cond v (range a b ∷ []) []) ≡ is_in p (range a b)
    by true e = or_none (is_in p (range a b))
    by false e = sym (none_in p (range a b) (ltb-false a b e))

-- ---- one gap

-- four tests that are known
either : (a b c d x y z w : Bool) → a ≡ x → b ≡ y → c ≡ z → d ≡ w → (x || y) ≡ (z && not w) → (a || b) ≡ (c && not d)
either a b c d x y z w ea eb ec ed h = rw (ea, eb, ec, ed) h

both : (a c d x z w : Bool) → a ≡ x → c ≡ z → d ≡ w → x ≡ (z && w) → a ≡ (c && d)
both a c d x z w ea ec ed h = rw (ea, ec, ed) h

-- what a gap has before a range and behind it is what it has and the range hasn't
module _ (p : ℕ) (r g : FileRange) where
  abbrev lo : FileRange
  lo = range g.start (min g.end r.start)

  abbrev hi : FileRange
  hi = range (max g.start r.end) g.end

  outside_low : p < g.start → (is_in p lo || is_in p hi) ≡ (is_in p g && not (is_in p r))
  outside_low h =
      either (is_in p lo) (is_in p hi) (is_in p g) (is_in p r) false false false (is_in p r)
      (is_before p lo h) (is_before p hi (omega (arith, h))) (is_before p g h) refl refl

  outside_high : g.end ≤ p → (is_in p lo || is_in p hi) ≡ (is_in p g && not (is_in p r))
  outside_high h =
      either (is_in p lo) (is_in p hi) (is_in p g) (is_in p r) false false false (is_in p r)
      (is_after p lo (omega (arith, h))) (is_after p hi h) (is_after p g h) refl refl

  left : g.start ≤ p → p < g.end → p < r.start → (is_in p lo || is_in p hi) ≡ (is_in p g && not (is_in p r))
  left low high h =
      either (is_in p lo) (is_in p hi) (is_in p g) (is_in p r) true (is_in p hi) true false
      (is_inside p lo low (omega (arith, high, h))) refl (is_inside p g low high) (is_before p r h) refl

  taken : g.start ≤ p → p < g.end → r.start ≤ p → p < r.end
      → (is_in p lo || is_in p hi) ≡ (is_in p g && not (is_in p r))
  taken low high h k =
      either (is_in p lo) (is_in p hi) (is_in p g) (is_in p r) false false true true
      (is_after p lo (omega (arith, h))) (is_before p hi (omega (arith, k))) (is_inside p g low high)
      (is_inside p r h k) refl

  right : g.start ≤ p → p < g.end → r.start ≤ p → r.end ≤ p
      → (is_in p lo || is_in p hi) ≡ (is_in p g && not (is_in p r))
  right low high h k =
      either (is_in p lo) (is_in p hi) (is_in p g) (is_in p r) false true true false
      (is_after p lo (omega (arith, h))) (is_inside p hi (omega (arith, low, k)) high) (is_inside p g low high)
      (is_after p r k) refl

  split : r.start < r.end → (is_in p lo || is_in p hi) ≡ (is_in p g && not (is_in p r))
  split some =
      ⊎_elim (λ (h : p < g.start). outside_low h)
      (λ (low : g.start ≤ p). ⊎_elim
      (λ (high : p < g.end). ⊎_elim (λ (h : p < r.start). left low high h)
      (λ (h : r.start ≤ p). ⊎_elim (λ (k : p < r.end). taken low high h k) (λ (k : r.end ≤ p). right low high h k)
      (cases_lt p r.end)) (cases_lt p r.start))
      (λ (h : g.end ≤ p). outside_high h) (cases_lt p g.end))
      (cases_lt p g.start)

  around_in : r.start < r.end → is_missing p (around r g) ≡ (is_in p g && not (is_in p r))
  around_in some =
      list_any-append (is_in p) (some_range g.start (min g.end r.start)) (some_range (max g.start r.end) g.end)
      ∙ ap (λ (b : Bool). b || is_missing p (some_range (max g.start r.end) g.end)) (some_in p g.start (min g.end r.start))
      ∙ ap (λ (b : Bool). is_in p lo || b) (some_in p (max g.start r.end) g.end)
      ∙ split some

  -- what both have
  abbrev mid : FileRange
  mid = range (max g.start r.start) (min g.end r.end)

  outside_g : is_in p g ≡ false → is_in p mid ≡ false → is_in p mid ≡ (is_in p g && is_in p r)
  outside_g h k = both (is_in p mid) (is_in p g) (is_in p r) false false (is_in p r) k h refl refl

  outside_r : is_in p r ≡ false → is_in p mid ≡ false → is_in p mid ≡ (is_in p g && is_in p r)
  outside_r h k =
      both (is_in p mid) (is_in p g) (is_in p r) false (is_in p g) false k refl h (sym (and_none (is_in p g)))

  common : is_in p mid ≡ (is_in p g && is_in p r)
  common =
      ⊎_elim (λ (h : p < g.start). outside_g (is_before p g h) (is_before p mid (omega (arith, h))))
      (λ (low : g.start ≤ p). ⊎_elim
      (λ (high : p < g.end). ⊎_elim (λ (h : p < r.start). outside_r (is_before p r h) (is_before p mid (omega (arith, h))))
      (λ (h : r.start ≤ p). ⊎_elim
      (λ (k : p < r.end). both (is_in p mid) (is_in p g) (is_in p r) true true true
      (is_inside p mid (omega (arith, low, h)) (omega (arith, high, k))) (is_inside p g low high) (is_inside p r h k) refl)
      (λ (k : r.end ≤ p). outside_r (is_after p r k) (is_after p mid (omega (arith, k))))
      (cases_lt p r.end)) (cases_lt p r.start))
      (λ (h : g.end ≤ p). outside_g (is_after p g h) (is_after p mid (omega (arith, h)))) (cases_lt p g.end))
      (cases_lt p g.start)

  common_in : is_missing p (some_range (max g.start r.start) (min g.end r.end)) ≡ (is_in p g && is_in p r)
  common_in = some_in p (max g.start r.start) (min g.end r.end) ∙ common

-- ---- all gaps

spread : (a b c : Bool) → ((a && c) || (b && c)) ≡ ((a || b) && c)
spread true true true = refl
spread true true false = refl
spread true false true = refl
spread true false false = refl
spread false true true = refl
spread false true false = refl
spread false false true = refl
spread false false false = refl

flat_in : (p : ℕ) (r : FileRange) (gs : List FileRange) → r.start < r.end
    → is_missing p (flat_map (around r) gs) ≡ (is_missing p gs && not (is_in p r))
flat_in p r [] some = refl
flat_in p r (g ∷ gs) some =
    list_any-append (is_in p) (around r g) (flat_map (around r) gs)
    ∙ ap (λ (b : Bool). b || is_missing p (flat_map (around r) gs)) (around_in p r g some)
    ∙ ap (λ (b : Bool). (is_in p g && not (is_in p r)) || b) (flat_in p r gs some)
    ∙ spread (is_in p g) (is_missing p gs) (not (is_in p r))

pub less_exact : LessIsExact
less_exact gs r p = by (nat_lt r.start r.end) refl
  where
    by : (v : Bool) → nat_lt r.start r.end ≡ v
        → is_missing p (cond v (flat_map (around r) gs) gs) ≡ (is_missing p gs && not (is_in p r))
    by true e = flat_in p r gs (ltb-true r.start r.end e)
    by false e =
        sym (and_all (is_missing p gs))
        ∙ ap (λ (b : Bool). is_missing p gs && not b) (sym (none_in p r (ltb-false r.start r.end e)))

pub parts_exact : PartsAreExact
parts_exact [] r p = refl
parts_exact (g ∷ gs) r p =
    list_any-append (is_in p) (some_range (max g.start r.start) (min g.end r.end)) (parts_of gs r)
    ∙ ap (λ (b : Bool). b || is_missing p (parts_of gs r)) (common_in p r g)
    ∙ ap (λ (b : Bool). (is_in p g && is_in p r) || b) (parts_exact gs r p)
    ∙ spread (is_in p g) (is_missing p gs) (is_in p r)

-- nothing is missing below the first gap
pub none_below : (low end : ℕ) (gs : List FileRange) (p : ℕ) → AreGaps low end gs → p < low → is_missing p gs ≡ false
none_below low end [] p a h = refl
none_below low end (g ∷ gs) p a h =
    let first : low ≤ g.start = a.0 in
    let some : g.start < g.end = a.1 in
    let rest = none_below (g.end + 1) end gs p a.3 (omega (arith, h, first, some)) in
    ap (λ (b : Bool). b || is_missing p gs) (is_before p g (omega (arith, h, first))) ∙ rest
