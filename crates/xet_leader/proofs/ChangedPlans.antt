-- The plans of a leader, of which one was changed.
use Rattle.std.proofs.Common.{◌≡◌, ℕ, zero, suc, ◌+◌, ◌-◌, ◌<◌, ◌≤◌, ⊎_elim, Bool, true, false, cond, List, [], ◌∷◌, get_or, length, refl, sym, subst, ◌∙◌, ap, arith, Some}
use Rattle.std.specs.Prelude.{All, ◌==◌, None, slice_get, slice_set}
use Rattle.std.proofs.lemmas.Bool.{cases_lt, eq-eqb, eqb-true, ne_eqb}
use Rattle.std.proofs.lemmas.List.Elements.{All-cons, All-head, All-nil, All-tail}
use Rattle.std.proofs.lemmas.Option.{slice_get_read}
use Rattle.xet_leader.specs.declared.leader.LedPlan.{LedPlan}
use Rattle.xet_leader.specs.ByNumber.{change_at, change_plan, only, plan_index}
use Rattle.xet_leader.specs.Led.{FollowOn}
use Rattle.xet_leader.proofs.AlikePlans.{AreAlike, IsAlike, alike_own}

-- ---- numbers

-- the numbers of the plans, from this one on
abbrev NumbersFrom : ℕ → List LedPlan → Type 0
NumbersFrom n [] = Unit {0}
NumbersFrom n (l ∷ ls) = (l.number ≡ n) × NumbersFrom (n + 1) ls

follow_numbers : (l : LedPlan) (ls : List LedPlan) → FollowOn (l ∷ ls) → NumbersFrom l.number (l ∷ ls)
follow_numbers l [] f = (refl, tt)
follow_numbers l (k ∷ ls) f = (refl, subst (λ (n : ℕ). NumbersFrom n (k ∷ ls)) f.0 (follow_numbers k ls f.2))

-- ---- what holds of each plan

-- what this becomes of the plan that is changed, and of those that aren't
abbrev pub OnChanged : (LedPlan → Type 0) → (LedPlan → Type 0) → (LedPlan → LedPlan) → ℕ → List LedPlan → ℕ → Type 0
OnChanged P Q f p ls i = (l : LedPlan) → slice_get ls i ≡ Some l → l.number ≡ p → P l → Q (f l)

abbrev pub OnOthers : (LedPlan → Type 0) → (LedPlan → Type 0) → ℕ → Type 0
OnOthers P Q p = (l : LedPlan) → (l.number == p) ≡ false → P l → Q l

other : (a b : ℕ) → (a ≡ b → ⊥) → (a == b) ≡ false
other a b h = ne_eqb a b h

only_off : (Q : LedPlan → Type 0) (f : LedPlan → LedPlan) (p : ℕ) (l : LedPlan) → (l.number == p) ≡ false → Q l
    → Q (only p f l)
only_off Q f p l e q = subst (λ (v : Bool). Q (cond v (f l) l)) (sym e) q

only_on : (P Q : LedPlan → Type 0) (f : LedPlan → LedPlan) (p : ℕ) (l : LedPlan) → OnOthers P Q p
    → (l.number ≡ p → P l → Q (f l)) → P l → Q (only p f l)
only_on P Q f p l off on h = by (l.number == p) refl
  where
    by : (v : Bool) → (l.number == p) ≡ v → Q (cond v (f l) l)
    by true e = on (eqb-true l.number p e) h
    by false e = off l e h

-- plans with later numbers
all_later : (P Q : LedPlan → Type 0) (p n : ℕ) (ls : List LedPlan) → p < n → NumbersFrom n ls → OnOthers P Q p
    → All P ls → All Q ls
all_later P Q p n [] h m off a = All-nil Q
all_later P Q p n (l ∷ ls) h m off a =
    let is = m.0 in
    All-cons Q l ls
    (off l (other l.number p (λ e. absurd (omega (arith, e, is, h)))) (All-head P l ls a))
    (all_later P Q p (n + 1) ls (omega (arith, h)) m.1 off (All-tail P l ls a))

all_at : (P Q : LedPlan → Type 0) (f : LedPlan → LedPlan) (p n i : ℕ) (ls : List LedPlan) → n + i ≡ p
    → NumbersFrom n ls → OnOthers P Q p → OnChanged P Q f p ls i → All P ls → All Q (change_at i (only p f) ls)
all_at P Q f p n i [] e m off on a = All-nil Q
all_at P Q f p n zero (l ∷ ls) e m off on a =
    let is = m.0 in
    All-cons Q (only p f l) ls
    (only_on P Q f p l off (λ h q. on l refl h q) (All-head P l ls a))
    (all_later P Q p (n + 1) ls (omega (arith, e)) m.1 off (All-tail P l ls a))
all_at P Q f p n (suc i) (l ∷ ls) e m off on a =
    let is = m.0 in
    All-cons Q l (change_at i (only p f) ls)
    (off l (other l.number p (λ h. absurd (omega (arith, e, is, h)))) (All-head P l ls a))
    (all_at P Q f p (n + 1) i ls (omega (arith, e)) m.1 off (λ k g h q. on k g h q) (All-tail P l ls a))

pub change_all : (P Q : LedPlan → Type 0) (f : LedPlan → LedPlan) (p : ℕ) (ls : List LedPlan) → FollowOn ls
    → OnOthers P Q p → OnChanged P Q f p ls (plan_index ls p) → All P ls → All Q (change_plan p f ls)
change_all P Q f p [] follow off on a = All-nil Q
change_all P Q f p (l ∷ ls) follow off on a = ⊎_elim late early (cases_lt p l.number)
  where
    m : NumbersFrom l.number (l ∷ ls)
    m = follow_numbers l ls follow

    early : l.number ≤ p → All Q (change_at (p - l.number) (only p f) (l ∷ ls))
    early h = all_at P Q f p l.number (p - l.number) (l ∷ ls) (omega (arith, h)) m off on a

    late : p < l.number → All Q (change_at (p - l.number) (only p f) (l ∷ ls))
    late h =
        let zero_is : p - l.number ≡ 0 = omega (arith, h) in
        subst (λ (i : ℕ). All Q (change_at i (only p f) (l ∷ ls))) (sym zero_is)
        (All-cons Q (only p f l) ls
        (only_off Q f p l (other l.number p (λ e. absurd (omega (arith, e, h))))
        (off l (other l.number p (λ e. absurd (omega (arith, e, h)))) (All-head P l ls a)))
        (all_later P Q p (l.number + 1) ls (omega (arith, h)) m.1 off (All-tail P l ls a)))

-- ---- their places

only_alike : (p : ℕ) (f : LedPlan → LedPlan) (l : LedPlan) → ((k : LedPlan) → IsAlike k (f k))
    → IsAlike l (only p f l)
only_alike p f l h = by (l.number == p)
  where
    by : (v : Bool) → IsAlike l (cond v (f l) l)
    by true = h l
    by false = record { number = refl; first = refl; terms = refl }

alike_at : (i p : ℕ) (f : LedPlan → LedPlan) (ls : List LedPlan) → ((k : LedPlan) → IsAlike k (f k))
    → AreAlike ls (change_at i (only p f) ls)
alike_at i p f [] h = tt
alike_at zero p f (l ∷ ls) h = (only_alike p f l h, alike_own ls)
alike_at (suc i) p f (l ∷ ls) h = (record { number = refl; first = refl; terms = refl }, alike_at i p f ls h)

pub alike_changed : (p : ℕ) (f : LedPlan → LedPlan) (ls : List LedPlan) → ((k : LedPlan) → IsAlike k (f k))
    → AreAlike ls (change_plan p f ls)
alike_changed p f ls h = alike_at (plan_index ls p) p f ls h

-- ---- a change that is made at a place

-- the plan of a number stands at this place
pub placed : (ls : List LedPlan) (i : ℕ) (l : LedPlan) → FollowOn ls → slice_get ls i ≡ Some l
    → plan_index ls l.number ≡ i
placed [] i l f h = absurd (cc)
placed (k ∷ ls) i l f h = let n = numbered_at k.number i (k ∷ ls) l (follow_numbers k ls f) h in omega (arith, n)
  where
    numbered_at : (n i : ℕ) (ls : List LedPlan) (l : LedPlan) → NumbersFrom n ls → slice_get ls i ≡ Some l
        → l.number ≡ n + i
    numbered_at n i [] l m h = absurd (cc)
    numbered_at n zero (k ∷ ls) l m h = let same : k ≡ l = cc in let e = ap (λ (x : LedPlan). x.number) same in
        let z = m.0 in omega (arith, e, z)
    numbered_at n (suc i) (k ∷ ls) l m h = let r = numbered_at (n + 1) i ls l m.1 h in omega (arith, r)

pub change_is_set : {A : Type 0} (f : A → A) (i : ℕ) (xs : List A) (x : A) → slice_get xs i ≡ Some x
    → change_at i f xs ≡ slice_set xs i (f x)
change_is_set f i [] x h = refl
change_is_set {A = A} f zero (y ∷ xs) x h = let same : y ≡ x = cc in ap (λ (z : A). f z ∷ xs) same
change_is_set {A = A} f (suc i) (y ∷ xs) x h = ap (λ (zs : List A). y ∷ zs) (change_is_set f i xs x h)

pub change_none : {A : Type 0} (f : A → A) (i : ℕ) (xs : List A) → slice_get xs i ≡ None → change_at i f xs ≡ xs
change_none f i [] h = refl
change_none f zero (y ∷ xs) h = absurd (cc)
change_none {A = A} f (suc i) (y ∷ xs) h = ap (λ (zs : List A). y ∷ zs) (change_none f i xs h)

-- one that leaves the element there changes nothing
pub change_same : {A : Type 0} (f : A → A) (i : ℕ) (xs : List A) (x : A) → slice_get xs i ≡ Some x → f x ≡ x
    → change_at i f xs ≡ xs
change_same f i [] x h e = refl
change_same {A = A} f zero (y ∷ xs) x h e = let same : y ≡ x = cc in ap (λ (z : A). z ∷ xs) (ap f same ∙ e ∙ sym same)
change_same {A = A} f (suc i) (y ∷ xs) x h e = ap (λ (zs : List A). y ∷ zs) (change_same f i xs x h e)

pub only_is : (p : ℕ) (f : LedPlan → LedPlan) (l : LedPlan) → l.number ≡ p → only p f l ≡ f l
only_is p f l h = ap (λ (v : Bool). cond v (f l) l) (eq-eqb l.number p h)

pub only_not : (p : ℕ) (f : LedPlan → LedPlan) (l : LedPlan) → (l.number ≡ p → ⊥) → only p f l ≡ l
only_not p f l h = ap (λ (v : Bool). cond v (f l) l) (ne_eqb l.number p h)

-- ---- what a look at a place says

pub read_some : {A : Type 0} (xs : List A) (n i : ℕ) (x : A) → n ≡ length xs → i < n → x ≡ get_or xs i x
    → slice_get xs i ≡ Some x
read_some xs n i x long within is = slice_get_read xs n i x long within is

pub read_none : {A : Type 0} (xs : List A) (n i : ℕ) → n ≡ length xs → (i < n → false ≡ true) → slice_get xs i ≡ None
read_none [] n i long past = refl
read_none (x ∷ xs) n zero long past = absurd (let h : 0 < n = omega (arith, long) in let z = past h in cc)
read_none (x ∷ xs) n (suc i) long past = read_none xs (length xs) i refl (λ h. past (omega (arith, long, h)))

-- the element itself put at its place
pub put_same : {A : Type 0} (xs : List A) (i : ℕ) (x : A) → slice_get xs i ≡ Some x → slice_set xs i x ≡ xs
put_same [] i x h = refl
put_same {A = A} (y ∷ xs) zero x h = let same : y ≡ x = cc in ap (λ (z : A). z ∷ xs) (sym same)
put_same {A = A} (y ∷ xs) (suc i) x h = ap (λ (zs : List A). y ∷ zs) (put_same xs i x h)
