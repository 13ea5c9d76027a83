-- Sums over the parts of files in a xorb, each file having one part at most.
use Rattle.std.proofs.Common.{◌≡◌, ℕ, Bool, true, false, cond, List, [], ◌∷◌, refl, sym, ◌∙◌, ap, ◌+◌, ◌-◌, ◌*◌, ◌/◌, ◌<◌, ◌≤◌, zero, suc, length, get_or, arith}
use Rattle.std.specs.Prelude.{nat_eq, All, AllPairs}
use Rattle.std.specs.List.{sum_by}
use Rattle.std.proofs.lemmas.Bool.{eqb-true, eqb-false, eq-eqb}
use Rattle.std.proofs.lemmas.List.Sums.{sum_by-cons}
use Rattle.std.proofs.Math.Nat.{mul-le-mul_left, mul_comm, div-one, mul-one, div-mul-le_self}
use Rattle.std.proofs.lemmas.Nat.{le-div}
use Rattle.xet_progress_state.specs.declared.part.Part.{Part}
use Rattle.xet_progress_state.specs.Counts.{share}
use Rattle.xet_progress_state.specs.steps.Credits.{gain_in}
use Rattle.xet_progress_state.specs.steps.Kept.{credited_in}

-- a number of each part of a file
abbrev pub in_file : (Part → ℕ) → ℕ → Part → ℕ
in_file g f p = cond (nat_eq p.file f) (g p) 0

abbrev pub OneEach : List Part → Type 0
OneEach ps = AllPairs (λ p q. nat_eq p.file q.file ≡ false) ps

tail : (p : Part) (ps : List Part) → OneEach (p ∷ ps) → OneEach ps
tail p ps h = λ i j d l m. h (suc i) (suc j) d (omega (arith, l)) (omega (arith, m))

-- no later part has the first one's file
pub none_later : (g : Part → ℕ) (p : Part) (ps : List Part) → OneEach (p ∷ ps) → sum_by (in_file g p.file) ps ≡ 0
none_later g p ps h = all ps (λ k d l. h 0 (suc k) d (omega arith) (omega (arith, l)))
  where
    all : (qs : List Part) → All (λ q. nat_eq p.file q.file ≡ false) qs → sum_by (in_file g p.file) qs ≡ 0
    all [] k = refl
    all (q ∷ qs) k =
        let a = sum_by-cons (in_file g p.file) q qs in
        let differ = eqb-false p.file q.file (k 0 q (omega arith)) in
        let other : nat_eq q.file p.file ≡ false = not_equal q.file p.file (λ e. differ (sym e)) in
        let first = ap (λ b. cond b (g q) 0) other in
        let rest = all qs (λ i d l. k (suc i) d (omega (arith, l))) in
        omega (arith, a, first, rest)
      where
        not_equal : (x y : ℕ) → (x ≡ y → ⊥) → nat_eq x y ≡ false
        not_equal x y n = go (nat_eq x y) refl
          where
            go : (b : Bool) → nat_eq x y ≡ b → nat_eq x y ≡ false
            go true e = absurd (n (eqb-true x y e))
            go false e = e

-- a number that depends on another number of the part, and is 0 with it
pub through : (u : ℕ → ℕ) → u 0 ≡ 0 → (w : Part → ℕ) (f : ℕ) (ps : List Part) → OneEach ps → sum_by (in_file (λ p. u (w p)) f) ps ≡ u (sum_by (in_file w f) ps)
through u z w f [] h = sym z
through u z w f (p ∷ ps) h = go (nat_eq p.file f) refl (through u z w f ps (tail p ps h))
  where
    a : sum_by (in_file (λ p. u (w p)) f) (p ∷ ps) ≡ in_file (λ p. u (w p)) f p + sum_by (in_file (λ p. u (w p)) f) ps
    a = sum_by-cons (in_file (λ p. u (w p)) f) p ps

    b : sum_by (in_file w f) (p ∷ ps) ≡ in_file w f p + sum_by (in_file w f) ps
    b = sum_by-cons (in_file w f) p ps

    go : (c : Bool) → nat_eq p.file f ≡ c → sum_by (in_file (λ p. u (w p)) f) ps ≡ u (sum_by (in_file w f) ps) → sum_by (in_file (λ p. u (w p)) f) (p ∷ ps) ≡ u (sum_by (in_file w f) (p ∷ ps))
    go true e next =
        let same = eqb-true p.file f e in
        let x : sum_by (in_file (λ p. u (w p)) f) ps ≡ 0 = ap (λ k. sum_by (in_file (λ p. u (w p)) k) ps) (sym same) ∙ none_later (λ p. u (w p)) p ps h in
        let y : sum_by (in_file w f) ps ≡ 0 = ap (λ k. sum_by (in_file w k) ps) (sym same) ∙ none_later w p ps h in
        let c = ap (λ b. cond b (u (w p)) 0) e in
        let d = ap (λ b. cond b (w p) 0) e in
        let all : sum_by (in_file w f) (p ∷ ps) ≡ w p = omega (arith, b, y, d) in
        let v = ap u all in
        omega (arith, a, x, c, v)
    go false e next =
        let c = ap (λ b. cond b (u (w p)) 0) e in
        let d = ap (λ b. cond b (w p) 0) e in
        let all : sum_by (in_file w f) (p ∷ ps) ≡ sum_by (in_file w f) ps = omega (arith, b, d) in
        let v = ap u all in
        omega (arith, a, c, next, v)

-- what is gained and what was credited are the share
pub gains : (sent size f : ℕ) (ps : List Part) → All (λ p. p.credited ≤ share p.waiting sent size) ps → sum_by (gain_in sent size f) ps + sum_by (credited_in f) ps ≡ sum_by (in_file (λ p. share p.waiting sent size) f) ps
gains sent size f [] h = refl
gains sent size f (p ∷ ps) h =
    let a = sum_by-cons (gain_in sent size f) p ps in
    let b = sum_by-cons (credited_in f) p ps in
    let c = sum_by-cons (in_file (λ p. share p.waiting sent size) f) p ps in
    let next = gains sent size f ps (λ k d l. h (suc k) d (omega (arith, l))) in
    let one = here (nat_eq p.file f) (share p.waiting sent size) p.credited (h 0 p (omega arith)) in
    omega (arith, a, b, c, next, one)
  where
    here : (b : Bool) (s k : ℕ) → k ≤ s → cond b (s - k) 0 + cond b k 0 ≡ cond b s 0
    here true s k l = omega (arith, l)
    here false s k l = omega arith

-- a part's number is the sum of its file's
pub alone : (g : Part → ℕ) (ps : List Part) (k : ℕ) (d : Part) → k < length ps → OneEach ps → sum_by (in_file g (get_or ps k d).file) ps ≡ g (get_or ps k d)
alone g [] k d l h = absurd (omega (arith, l))
alone g (p ∷ ps) zero d l h =
    let a = sum_by-cons (in_file g p.file) p ps in
    let n = none_later g p ps h in
    let e = ap (λ b. cond b (g p) 0) (eq-eqb p.file p.file refl) in
    omega (arith, a, n, e)
alone g (p ∷ ps) (suc k) d l h =
    let q = get_or ps k d in
    let a = sum_by-cons (in_file g (get_or ps k d).file) p ps in
    let other : nat_eq p.file (get_or ps k d).file ≡ false = h 0 (suc k) d (omega arith) l in
    let e = ap (λ b. cond b (g p) 0) other in
    let next = alone g ps k d (omega (arith, l)) (tail p ps h) in
    omega (arith, a, e, next)

-- shares grow with the part and with what was sent
pub share-mono : (m n c d s : ℕ) → m ≤ n → c ≤ d → share m c s ≤ share n d s
share-mono m n c d s h k = go (nat_eq s 0) refl
  where
    go : (b : Bool) → nat_eq s 0 ≡ b → cond b 0 (m * c / s) ≤ cond b 0 (n * d / s)
    go true e = omega arith
    go false e =
        let pos : 0 < s = (let z = eqb-false s 0 e in grind (arith, z)) in
        let a = mul-le-mul_left m k in
        let b = mul-le-mul_left d h in
        let x = mul_comm d m in
        let y = mul_comm d n in
        let prod : m * c ≤ n * d = omega (arith, a, b, x, y) in
        div_mono (m * c) (n * d) s pos prod
      where
        div_mono : (a b s : ℕ) → 0 < s → a ≤ b → a / s ≤ b / s
        div_mono a b s p l = le-div (a / s) b s p (let q = div-mul-le_self a s in omega (arith, q, l))

pub share_all : (n : ℕ) → share n 1 1 ≡ n
share_all n = grind (arith, div-one, mul-one)
