-- The ranges of a set of numbers ascend, and cover each interval of its numbers.
use Rattle.std.proofs.Common.{◌≡◌, ℕ, zero, suc, ◌+◌, ◌≤◌, ◌<◌, Bool, true, false, cond, List, [], ◌∷◌, refl, sym, ◌∙◌, arith, ◌⊎◌, inl, inr, ⊎_elim, eqb, subst}
use Rattle.std.specs.Prelude.{filter}
use Rattle.std.specs.List.{range_with_len}
use Rattle.std.proofs.lemmas.Bool.{eq-eqb, cases_lt, false≢true}
use Rattle.xet_base.specs.declared.cas_types.ChunkRange.{ChunkRange}
use Rattle.xet_base.specs.Ranges.{Ascend, Covers}
use Rattle.xet_outside.specs.Plan.{with_number, ranges_of}

pub Ascend-lower : (k low high : ℕ) (rs : List ChunkRange) → k ≤ low → Ascend low high rs → Ascend k high rs
Ascend-lower k low high [] h a = tt
Ascend-lower k low high (r ∷ rs) h a = let b : low ≤ r.start = a.0 in (omega arith, a.1, a.2, a.3)

with_number-ascends : (k high : ℕ) (rs : List ChunkRange) → k < high → Ascend (suc k) high rs → Ascend k high (with_number k rs)
with_number-ascends k high [] h a = (omega arith, omega arith, omega arith, tt)
with_number-ascends k high (r ∷ rs) h a = go (eqb r.start (suc k)) refl
  where
    go : (b : Bool) → eqb r.start (suc k) ≡ b → Ascend k high (cond b (record { start = k; end = r.end } ∷ rs) (record { start = k; end = suc k } ∷ r ∷ rs))
    go true e =
        let s : r.start < r.end = a.1 in
        let l : suc k ≤ r.start = a.0 in
        (omega arith, omega arith, a.2, a.3)
    go false e = (omega arith, omega arith, omega arith, a)

-- the numbers from a on that pass, as ranges
abbrev runs : (ℕ → Bool) → ℕ → ℕ → List ChunkRange
runs p a n = ranges_of (filter p (range_with_len a n))

pub runs_ascend : (p : ℕ → Bool) (a n : ℕ) → Ascend a (a + n) (runs p a n)
runs_ascend p a zero = tt
runs_ascend p a (suc n) =
    let e : a + 1 + n ≡ a + suc n = omega arith in
    let f : a + 1 ≡ suc a = omega arith in
    let next = subst (λ (m : ℕ). Ascend (a + 1) m (runs p (a + 1) n)) e (runs_ascend p (a + 1) n) in
    go (p a) (subst (λ (m : ℕ). Ascend m (a + suc n) (runs p (a + 1) n)) f next)
  where
    go : (b : Bool) → Ascend (suc a) (a + suc n) (runs p (a + 1) n) → Ascend a (a + suc n) (ranges_of (cond b (a ∷ filter p (range_with_len (a + 1) n)) (filter p (range_with_len (a + 1) n))))
    go true x = with_number-ascends a (a + suc n) (runs p (a + 1) n) (omega arith) x
    go false x = Ascend-lower a (suc a) (a + suc n) (runs p (a + 1) n) (omega arith) x

-- a number further down keeps what is covered
with_number-keeps : (k u v : ℕ) (rs : List ChunkRange) → k ≤ u → Covers u v rs → Covers u v (with_number k rs)
with_number-keeps k u v [] h c = absurd c
with_number-keeps k u v (r ∷ rs) h c = go (eqb r.start (suc k)) c
  where
    go : (b : Bool) → Covers u v (r ∷ rs) → Covers u v (cond b (record { start = k; end = r.end } ∷ rs) (record { start = k; end = suc k } ∷ r ∷ rs))
    go true (inl d) = inl (h, d.1)
    go true (inr d) = inr d
    go false d = inr d

-- a number further down is covered, with the interval that adjoins it
with_number-one : (k : ℕ) (rs : List ChunkRange) (high : ℕ) → Ascend (suc k) high rs → Covers k (suc k) (with_number k rs)
with_number-one k [] high a = inl (omega arith, omega arith)
with_number-one k (r ∷ rs) high a = go (eqb r.start (suc k)) refl
  where
    go : (b : Bool) → eqb r.start (suc k) ≡ b → Covers k (suc k) (cond b (record { start = k; end = r.end } ∷ rs) (record { start = k; end = suc k } ∷ r ∷ rs))
    go true e = let s : r.start < r.end = a.1 in let l : suc k ≤ r.start = a.0 in inl (omega arith, omega arith)
    go false e = inl (omega arith, omega arith)

none_below : (u v low high : ℕ) (rs : List ChunkRange) → u < low → u < v → Ascend low high rs → Covers u v rs → ⊥
none_below u v low high [] h w a c = c
none_below u v low high (r ∷ rs) h w a (inl d) = let l : low ≤ r.start = a.0 in let s : r.start ≤ u = d.0 in absurd (omega arith)
none_below u v low high (r ∷ rs) h w a (inr d) =
    let l : low ≤ r.start = a.0 in let s : r.start < r.end = a.1 in
    none_below u v r.end high rs (omega arith) w a.3 d

with_number-joins : (k v : ℕ) (rs : List ChunkRange) (high : ℕ) → suc k < v → Ascend (suc k) high rs → Covers (suc k) v rs → Covers k v (with_number k rs)
with_number-joins k v [] high w a c = absurd c
with_number-joins k v (r ∷ rs) high w a (inl d) =
    let l : suc k ≤ r.start = a.0 in
    let s : r.start ≤ suc k = d.0 in
    let e : r.start ≡ suc k = omega arith in
    go (eqb r.start (suc k)) (eq-eqb r.start (suc k) e)
  where
    go : (b : Bool) → b ≡ true → Covers k v (cond b (record { start = k; end = r.end } ∷ rs) (record { start = k; end = suc k } ∷ r ∷ rs))
    go true e = inl (omega arith, d.1)
    go false e = absurd (false≢true e)
with_number-joins k v (r ∷ rs) high w a (inr d) =
    let l : suc k ≤ r.start = a.0 in let s : r.start < r.end = a.1 in
    absurd (none_below (suc k) v r.end high rs (omega arith) w a.3 d)

-- an interval of numbers that pass is covered
pub runs_cover : (p : ℕ → Bool) (a n u v : ℕ) → a ≤ u → u < v → v ≤ a + n → ((k : ℕ) → u ≤ k → k < v → p k ≡ true) → Covers u v (runs p a n)
runs_cover p a zero u v h w b all = absurd (omega arith)
runs_cover p a (suc n) u v h w b all =
    let e : a + 1 + n ≡ a + suc n = omega arith in
    let f : a + 1 ≡ suc a = omega arith in
    let up : Ascend (suc a) (a + 1 + n) (runs p (a + 1) n) = subst (λ (m : ℕ). Ascend m (a + 1 + n) (runs p (a + 1) n)) f (runs_ascend p (a + 1) n) in
    go (p a) refl up (λ h' v' w' b' all'. runs_cover p (a + 1) n h' v' (omega arith) w' (omega arith) all')
  where
    go : (c : Bool) → p a ≡ c → Ascend (suc a) (a + 1 + n) (runs p (a + 1) n)
        → ((u' v' : ℕ) → u' < v' → (suc a ≤ u') × (v' ≤ a + suc n) → ((k : ℕ) → u' ≤ k → k < v' → p k ≡ true) → Covers u' v' (runs p (a + 1) n))
        → Covers u v (ranges_of (cond c (a ∷ filter p (range_with_len (a + 1) n)) (filter p (range_with_len (a + 1) n))))
    go true e up next = ⊎_elim
        (λ (l : a < u). with_number-keeps a u v (runs p (a + 1) n) h (next u v w (omega arith, b) all))
        (λ (l : u ≤ a). first (omega arith) (cases_lt (suc a) v))
        (cases_lt a u)
      where
        first : a ≡ u → (suc a < v) ⊎ (v ≤ suc a) → Covers u v (with_number a (runs p (a + 1) n))
        first s (inl m) = subst (λ (x : ℕ). Covers x v (with_number a (runs p (a + 1) n))) s
            (with_number-joins a v (runs p (a + 1) n) (a + 1 + n) m up (next (suc a) v m (omega arith, b) (λ k x y. all k (omega arith) y)))
        first s (inr m) =
            let t : suc a ≡ v = omega arith in
            subst (λ (x : ℕ). Covers u x (with_number a (runs p (a + 1) n))) t
            (subst (λ (x : ℕ). Covers x (suc a) (with_number a (runs p (a + 1) n))) s (with_number-one a (runs p (a + 1) n) (a + 1 + n) up))
    go false e up next = ⊎_elim
        (λ (l : a < u). next u v w (omega arith, b) all)
        (λ (l : u ≤ a). let s : u ≡ a = omega arith in absurd (false≢true (sym e ∙ all a (omega arith) (omega arith))))
        (cases_lt a u)
