-- Plans that follow one another as others do.
use Rattle.std.proofs.Common.{◌≡◌, ℕ, ◌+◌, ◌<◌, ◌≤◌, List, [], ◌∷◌, length, refl, sym, ◌∙◌, ap, arith, suc, zero}
use Rattle.std.specs.Prelude.{Some, slice_get, slice_set}
use Rattle.xet_leader.specs.declared.leader.LedPlan.{LedPlan}
use Rattle.xet_leader.specs.Led.{BeginsWith, FollowOn, LastNumberIs, LastTermsAre}

-- a plan with the number and the terms' places of another
pub record IsAlike (l k : LedPlan) : Type 0 where
  pub number : k.number ≡ l.number
  pub first : k.first ≡ l.first
  pub terms : length k.block.terms ≡ length l.block.terms

abbrev pub AreAlike : List LedPlan → List LedPlan → Type 0
AreAlike [] [] = Unit {0}
AreAlike [] (k ∷ ks) = ⊥
AreAlike (l ∷ ls) [] = ⊥
AreAlike (l ∷ ls) (k ∷ ks) = IsAlike l k × AreAlike ls ks

pub alike_own : (ls : List LedPlan) → AreAlike ls ls
alike_own [] = tt
alike_own (l ∷ ls) = (record { number = refl; first = refl; terms = refl }, alike_own ls)

-- where one plan of a list is another one
pub alike_set : (ls : List LedPlan) (i : ℕ) (l k : LedPlan) → slice_get ls i ≡ Some l → IsAlike l k
    → AreAlike ls (slice_set ls i k)
alike_set [] i l k h a = absurd (cc)
alike_set (m ∷ ls) zero l k h a = (
  let same : m ≡ l = cc in
      record {
        number = a.number ∙ ap (λ (x : LedPlan). x.number) (sym same);
        first = a.first
            ∙ ap (λ (x : LedPlan). x.first) (sym same);
        terms =
            a.terms ∙ ap (λ (x : LedPlan). length x.block.terms) (sym same);
      },
  alike_own ls,
)
alike_set (m ∷ ls) (suc i) l k h a = (record { number = refl; first = refl; terms = refl }, alike_set ls i l k h a)

pub alike_follow : (ls ks : List LedPlan) → AreAlike ls ks → FollowOn ls → FollowOn ks
alike_follow [] [] a f = tt
alike_follow [] (k ∷ ks) a f = absurd a
alike_follow (l ∷ ls) [] a f = absurd a
alike_follow (l ∷ []) (k ∷ []) a f = tt
alike_follow (l ∷ []) (k ∷ j ∷ ks) a f = absurd a.1
alike_follow (l ∷ m ∷ ls) (k ∷ []) a f = absurd a.1
alike_follow (l ∷ m ∷ ls) (k ∷ j ∷ ks) a f =
    let p : k.number ≡ l.number = a.0.number in
    let q : j.number ≡ m.number = a.1.0.number in
    let s : k.first ≡ l.first = a.0.first in
    let t : j.first ≡ m.first = a.1.0.first in
    let n : length k.block.terms ≡ length l.block.terms = a.0.terms in
    let x : m.number ≡ l.number + 1 = f.0 in
    let y : m.first ≡ l.first + length l.block.terms = f.1 in
    (omega arith, omega arith, alike_follow (m ∷ ls) (j ∷ ks) a.1 f.2)

pub alike_number : (number : ℕ) (ls ks : List LedPlan) → AreAlike ls ks → LastNumberIs number ls
    → LastNumberIs number ks
alike_number number [] [] a f = tt
alike_number number [] (k ∷ ks) a f = absurd a
alike_number number (l ∷ ls) [] a f = absurd a
alike_number number (l ∷ []) (k ∷ []) a f = a.0.number ∙ f
alike_number number (l ∷ []) (k ∷ j ∷ ks) a f = absurd a.1
alike_number number (l ∷ m ∷ ls) (k ∷ []) a f = absurd a.1
alike_number number (l ∷ m ∷ ls) (k ∷ j ∷ ks) a f = alike_number number (m ∷ ls) (j ∷ ks) a.1 f

pub alike_terms : (terms : ℕ) (ls ks : List LedPlan) → AreAlike ls ks → LastTermsAre terms ls → LastTermsAre terms ks
alike_terms terms [] [] a f = tt
alike_terms terms [] (k ∷ ks) a f = absurd a
alike_terms terms (l ∷ ls) [] a f = absurd a
alike_terms terms (l ∷ []) (k ∷ []) a f =
    let s : k.first ≡ l.first = a.0.first in
    let n : length k.block.terms ≡ length l.block.terms = a.0.terms in
    let x : l.first + length l.block.terms ≡ terms = f in
    omega arith
alike_terms terms (l ∷ []) (k ∷ j ∷ ks) a f = absurd a.1
alike_terms terms (l ∷ m ∷ ls) (k ∷ []) a f = absurd a.1
alike_terms terms (l ∷ m ∷ ls) (k ∷ j ∷ ks) a f = alike_terms terms (m ∷ ls) (j ∷ ks) a.1 f

pub alike_begins : (finished terms : ℕ) (ls ks : List LedPlan) → AreAlike ls ks → BeginsWith finished terms ls
    → BeginsWith finished terms ks
alike_begins finished terms [] [] a f = f
alike_begins finished terms [] (k ∷ ks) a f = absurd a
alike_begins finished terms (l ∷ ls) [] a f = absurd a
alike_begins finished terms (l ∷ ls) (k ∷ ks) a f =
    let s : k.first ≡ l.first = a.0.first in
    let n : length k.block.terms ≡ length l.block.terms = a.0.terms in
    let x : l.first ≤ finished = f.0 in
    let y : finished < l.first + length l.block.terms = f.1 in
    (omega arith, omega arith)

-- ---- numbers of plans that follow one another

-- each has a greater number
abbrev pub AllPast : ℕ → List LedPlan → Type 0
AllPast n [] = Unit {0}
AllPast n (l ∷ ls) = (n < l.number) × AllPast n ls

pub past_first : (n : ℕ) (l : LedPlan) (ls : List LedPlan) → n ≤ l.number → FollowOn (l ∷ ls) → AllPast n ls
past_first n l [] h f = tt
past_first n l (k ∷ ls) h f = (
  let x : k.number ≡ l.number + 1 = f.0 in
      omega arith,
  past_first n k ls (let x : k.number ≡ l.number + 1 = f.0 in omega arith) f.2,
)

pub past_at : (n : ℕ) (ls : List LedPlan) (i : ℕ) (l : LedPlan) → AllPast n ls → slice_get ls i ≡ Some l
    → n < l.number
past_at n [] i l a h = absurd (cc)
past_at n (k ∷ ls) zero l a h = let same : k ≡ l = cc in let x : n < k.number = a.0 in let y =
    ap (λ (m : LedPlan). m.number) same in omega (arith, x, y)
past_at n (k ∷ ls) (suc i) l a h = past_at n ls i l a.1 h

pub follow_rest : (l : LedPlan) (ls : List LedPlan) → FollowOn (l ∷ ls) → FollowOn ls
follow_rest l [] f = tt
follow_rest l (k ∷ ls) f = f.2
