-- A loop that counts expired blocks one after another.
use Rattle.std.proofs.Common.{◌≡◌, ℕ, suc, ◌+◌, ◌<◌, ◌≤◌, ⊎_elim, arith, Bool, true, false, List, [], ◌∷◌, length, drop, get_or, refl, sym, ◌∙◌, ap, inr, Ok, Err}
use Rattle.std.specs.Prelude.{IfErr, OnOk, None, Option, Some, cond, map, nat_lt, not, position, ◌++◌, ◌&&◌, ◌==◌, ◌||◌, ◌⊎◌, Result, slice_get, slice_index, slice_set}
use Rattle.std.specs.List.{list_any, position_or_len}
use Rattle.std.specs.Option.{is_some}
use Rattle.std.specs.Ordering.{is_eq, nat_cmp}
use Rattle.std.specs.declared.cmp.Ordering.TheVariants.{Equal, Greater, Less}
use Rattle.std.specs.Vec.{with_item}
use Rattle.std.proofs.lemmas.Bool.{cases_lt, cases_order, cond-true, eq-eqb, le-ltb, lt-ltb, ne_eqb}
use Rattle.std.proofs.lemmas.List.{at_drop_all, at_drop_more, map-append}
use Rattle.xet_error.specs.declared.error.FileReconstructionError.{FileReconstructionError}
use Rattle.xet_error.specs.declared.error.FileReconstructionError.TheVariants as error
use Rattle.xet_ties.specs.Recordings.{Place}
use Rattle.xet_leader.specs.declared.expiries.StalePlan.{StalePlan}
use Rattle.xet_leader.specs.declared.leader.LedPlan.{LedPlan}
use Rattle.xet_leader.specs.declared.missing_blocks.BlockAt.{BlockAt}
use Rattle.xet_leader.specs.Places.{place_at}
use Rattle.xet_leader.specs.ByNumber.{only, plan_index}
use Rattle.xet_leader.specs.Expiries.{CountAll, CountOne, counted, counted_one, one_more, spends, spends_in, spends_of, spends_one, stale_after, with_stale}
use Rattle.xet_leader.proofs.ChangedPlans.{change_is_set, change_none, change_same, only_is, only_not, put_same}

-- the numbers of stale plans
abbrev pub numbers : List StalePlan → List ℕ
numbers ss = map (λ (s : StalePlan). s.number) ss

-- what is left of the blocks leads from here to where all lead from the start
pub record CountLeft (tries : ℕ) (late : List BlockAt) (i : ℕ) (ls now : List LedPlan) (ss ts : List StalePlan)
    : Type 0 where
  pub counted_are : counted (map place_at (drop i late)) now ≡ counted (map place_at late) ls
  pub stale_are : stale_after (map place_at (drop i late)) (numbers ts) ≡ stale_after (map place_at late) (numbers ss)
  pub spent : spends tries (map place_at (drop i late)) now ≡ spends tries (map place_at late) ls

pub count_more : (tries : ℕ) (late : List BlockAt) (i : ℕ) (at : BlockAt) (ls now next : List LedPlan)
    (ss ts us : List StalePlan) → i < length late → at ≡ get_or late i at
    → CountOne tries (place_at at) now next (Ok tt)
    → numbers us ≡ with_stale at.plan (numbers ts) → CountLeft tries late i ls now ss ts
    → CountLeft tries late (i + 1) ls next ss us
count_more tries late i at ls now next ss ts us within is one more l =
    let x = get_or late i at in
    let rest = drop (i + 1) late in
    let same : place_at x ≡ place_at at = ap place_at (sym is) in
    let a : counted (map place_at (drop i late)) now ≡ counted (map place_at rest) (counted_one (place_at x) now) =
    at_drop_more (λ (xs : List BlockAt). counted (map place_at xs) now) late i at within in
    let b : stale_after (map place_at (drop i late)) (numbers ts) ≡ stale_after (map place_at rest)
    (with_stale (place_at x).0 (numbers ts)) = at_drop_more
    (λ (xs : List BlockAt). stale_after (map place_at xs) (numbers ts)) late i at within in
    let c : spends tries (map place_at (drop i late)) now ≡
    (spends_one tries (place_at x) now || spends tries (map place_at rest) (counted_one (place_at x) now)) =
    at_drop_more (λ (xs : List BlockAt). spends tries (map place_at xs) now) late i at within in
    let step : next ≡ counted_one (place_at x) now = one.counted ∙ ap (λ p. counted_one p now) (sym same) in
    let none : spends_one tries (place_at x) now ≡ false = ap (λ p. spends_one tries p now) same ∙ one.left in
    record {
      counted_are = ap (λ (ks : List LedPlan). counted (map place_at rest) ks) step ∙ sym a ∙ l.counted_are;
      stale_are = ap (λ (ns : List ℕ). stale_after (map place_at rest) ns)
          (more ∙ ap (λ (n : ℕ). with_stale n (numbers ts)) (ap (λ (b : BlockAt). b.plan) is)) ∙ sym b ∙ l.stale_are;
      spent = ap (λ (ks : List LedPlan). spends tries (map place_at rest) ks) step
          ∙ ap (λ (v : Bool). v || spends tries (map place_at rest) (counted_one (place_at x) now)) (sym none) ∙ sym c
          ∙ l.spent;
    }

pub count_all : (tries : ℕ) (late : List BlockAt) (i : ℕ) (ls now : List LedPlan) (ss ts : List StalePlan)
    → length late ≤ i → CountLeft tries late i ls now ss ts
    → CountAll tries (map place_at late) ls now (numbers ss) (numbers ts) (Ok tt)
count_all tries late i ls now ss ts past l =
    let a : counted (map place_at (drop i late)) now ≡ now =
    at_drop_all (λ (xs : List BlockAt). counted (map place_at xs) now) late i past in
    let b : stale_after (map place_at (drop i late)) (numbers ts) ≡ numbers ts =
    at_drop_all (λ (xs : List BlockAt). stale_after (map place_at xs) (numbers ts)) late i past in
    let c : spends tries (map place_at (drop i late)) now ≡ false =
    at_drop_all (λ (xs : List BlockAt). spends tries (map place_at xs) now) late i past in
    record { counted_are = sym a ∙ l.counted_are; stale_are = sym b ∙ l.stale_are; left = sym l.spent ∙ c; err = tt }

-- the tries of the next one are used up
pub count_spent : (tries : ℕ) (late : List BlockAt) (i : ℕ) (at : BlockAt) (ls now next : List LedPlan)
    (ss ts : List StalePlan) (e : FileReconstructionError) → i < length late → at ≡ get_or late i at
    → CountOne tries (place_at at) now next (Err e)
    → CountLeft tries late i ls now ss ts → (qs : List ℕ)
    → CountAll tries (map place_at late) ls next (numbers ss) qs (Err e)
count_spent tries late i at ls now next ss ts e within is one l qs =
    let x = get_or late i at in
    let rest = drop (i + 1) late in
    let c : spends tries (map place_at (drop i late)) now ≡
    (spends_one tries (place_at x) now || spends tries (map place_at rest) (counted_one (place_at x) now)) =
    at_drop_more (λ (xs : List BlockAt). spends tries (map place_at xs) now) late i at within in
    let some : spends_one tries (place_at x) now ≡ true =
    ap (λ p. spends_one tries p now) (ap place_at (sym is)) ∙ one.spent.1 in
    record {
      counted_are = tt;
      stale_are = tt;
      left = tt;
      err = inr (
        one.spent.0,
        sym l.spent ∙ c ∙ ap (λ (v : Bool). v || spends tries (map place_at rest)
            (counted_one (place_at x) now)) some,
      );
    }

-- ---- one block

-- a plan whose block was counted
pub counted_in : (l : LedPlan) (k more : ℕ) → k < length l.tries.items → more ≡ slice_index l.tries.items k + 1
    → record l { tries = with_item l.tries k more } ≡ one_more k l
counted_in l k more within is =
    ap (λ (n : ℕ). record l { tries = with_item l.tries k n }) is
    ∙ sym (cond-true (nat_lt k (length l.tries.items))
    (record l { tries = with_item l.tries k (slice_index l.tries.items k + 1) }) l
    (lt-ltb k (length l.tries.items) within))

-- there is no such plan
pub one_none : (tries : ℕ) (c : Place) (ls : List LedPlan) (i : ℕ) → i ≡ plan_index ls c.0 → slice_get ls i ≡ None
    → CountOne tries c ls ls (Ok tt)
one_none tries c ls i is h =
    let at : slice_get ls (plan_index ls c.0) ≡ None = ap (λ (j : ℕ). slice_get ls j) (sym is) ∙ h in
    record {
      counted = sym (change_none (only c.0 (one_more c.1)) (plan_index ls c.0) ls at);
      left = ap (λ (o : Option LedPlan). spends_of tries c o) at;
      spent = tt;
    }

pub one_other : (tries : ℕ) (c : Place) (ls : List LedPlan) (i : ℕ) (l : LedPlan) → i ≡ plan_index ls c.0
    → slice_get ls i ≡ Some l → (l.number ≡ c.0 → ⊥) → CountOne tries c ls (slice_set ls i l) (Ok tt)
one_other tries c ls i l is h off =
    let at : slice_get ls (plan_index ls c.0) ≡ Some l = ap (λ (j : ℕ). slice_get ls j) (sym is) ∙ h in
    record {
      counted = put_same ls i l h ∙ sym (change_same (only c.0 (one_more c.1)) (plan_index ls c.0) ls l at
          (only_not c.0 (one_more c.1) l off));
      left = ap (λ (o : Option LedPlan). spends_of tries c o) at
          ∙ ap (λ (v : Bool). v && spends_in tries c.1 l) (ne_eqb l.number c.0 off);
      spent = tt;
    }

-- this is the plan
pub one_there : (tries : ℕ) (c : Place) (ls : List LedPlan) (i : ℕ) (l k : LedPlan)
    (answer : Result (Unit {0}) FileReconstructionError) → i ≡ plan_index ls c.0 → slice_get ls i ≡ Some l
    → l.number ≡ c.0 → OnOk answer (k ≡ one_more c.1 l) → OnOk answer (spends_in tries c.1 l ≡ false)
    → IfErr answer (λ e. (e ≡ error.UrlExpired) × (spends_in tries c.1 l ≡ true))
    → CountOne tries c ls (slice_set ls i k) answer
one_there tries c ls i l k (Ok tt) is h on more left spent =
    let at : slice_get ls (plan_index ls c.0) ≡ Some l = ap (λ (j : ℕ). slice_get ls j) (sym is) ∙ h in
    record {
      counted = ap (λ (j : ℕ). slice_set ls j k) is
          ∙ ap (λ (x : LedPlan). slice_set ls (plan_index ls c.0) x) (more ∙ sym (only_is c.0 (one_more c.1) l on))
          ∙ sym (change_is_set (only c.0 (one_more c.1)) (plan_index ls c.0) ls l at);
      left = ap (λ (o : Option LedPlan). spends_of tries c o) at
          ∙ ap (λ (v : Bool). v && spends_in tries c.1 l) (eq-eqb l.number c.0 on) ∙ left;
      spent = tt;
    }
one_there tries c ls i l k (Err e) is h on more left spent =
    let at : slice_get ls (plan_index ls c.0) ≡ Some l = ap (λ (j : ℕ). slice_get ls j) (sym is) ∙ h in
    record {
      counted = tt;
      left = tt;
      spent = (
        spent.0,
        ap (λ (o : Option LedPlan). spends_of tries c o) at
            ∙ ap (λ (v : Bool). v && spends_in tries c.1 l) (eq-eqb l.number c.0 on) ∙ spent.1,
      );
    }

-- ---- stale plans

-- the test by which a list finds a plan
abbrev is_plan : ℕ → StalePlan → Bool
is_plan p s = is_eq (nat_cmp s.number p)

same_test : (p n : ℕ) → is_eq (nat_cmp n p) ≡ (p == n)
same_test p n = ⊎_elim equal (λ (h : (n < p) ⊎ (p < n)). ⊎_elim less greater h) (cases_order n p)
  where
    equal : n ≡ p → is_eq (nat_cmp n p) ≡ (p == n)
    equal e = ap is_eq (ap (λ (v : Bool). cond v Less (cond (n == p) Equal Greater)) (le-ltb n p (omega (arith, e)))
        ∙ ap (λ (v : Bool). cond v Equal Greater) (eq-eqb n p e)) ∙ sym (eq-eqb p n (sym e))

    less : n < p → is_eq (nat_cmp n p) ≡ (p == n)
    less h = ap is_eq (ap (λ (v : Bool). cond v Less (cond (n == p) Equal Greater)) (lt-ltb n p h))
        ∙ sym (ne_eqb p n (λ e. absurd (omega (arith, e, h))))

    greater : p < n → is_eq (nat_cmp n p) ≡ (p == n)
    greater h =
        ap is_eq (ap (λ (v : Bool). cond v Less (cond (n == p) Equal Greater)) (le-ltb n p (omega (arith, h)))
        ∙ ap (λ (v : Bool). cond v Equal Greater) (ne_eqb n p (λ e. absurd (omega (arith, e, h)))))
        ∙ sym (ne_eqb p n (λ e. absurd (omega (arith, e, h))))

one_less : (a b : ℕ) → nat_lt (1 + a) (suc b) ≡ nat_lt a b
one_less a b = ⊎_elim (λ (h : a < b). lt-ltb (1 + a) (suc b) (omega (arith, h)) ∙ sym (lt-ltb a b h))
    (λ (h : b ≤ a). le-ltb (1 + a) (suc b) (omega (arith, h)) ∙ sym (le-ltb a b h)) (cases_lt a b)

found_first : (p : ℕ) (ss : List StalePlan) → nat_lt (position_or_len (is_plan p) ss) (length ss) ≡ list_any
    (λ q. p == q) (numbers ss)
found_first p [] = refl
found_first p (s ∷ ss) = by (is_plan p s) refl (found_first p ss)
  where
    by : (v : Bool) → is_plan p s ≡ v → nat_lt (position_or_len (is_plan p) ss) (length ss) ≡ list_any (λ q. p == q)
        (numbers ss)
        → nat_lt (cond (not (is_plan p s)) (1 + position_or_len (is_plan p) ss) 0) (suc (length ss)) ≡
        (p == s.number || list_any (λ q. p == q) (numbers ss))
    by true e r =
        let a : nat_lt (cond (not (is_plan p s)) (1 + position_or_len (is_plan p) ss) 0) (suc (length ss)) ≡ nat_lt 0
        (suc (length ss)) = ap (λ (v : Bool). nat_lt (cond (not v) (1 + position_or_len (is_plan p) ss) 0)
        (suc (length ss))) e in
        let b : (p == s.number) ≡ true = sym (same_test p s.number) ∙ e in
        a ∙ lt-ltb 0 (suc (length ss)) (omega arith) ∙ sym
        (ap (λ (v : Bool). v || list_any (λ q. p == q) (numbers ss)) b)
    by false e r =
        let a : nat_lt (cond (not (is_plan p s)) (1 + position_or_len (is_plan p) ss) 0) (suc (length ss)) ≡ nat_lt
        (1 + position_or_len (is_plan p) ss) (suc (length ss)) =
        ap (λ (v : Bool). nat_lt (cond (not v) (1 + position_or_len (is_plan p) ss) 0) (suc (length ss))) e in
        let b : (p == s.number) ≡ false = sym (same_test p s.number) ∙ e in
        a ∙ one_less (position_or_len (is_plan p) ss) (length ss) ∙ r
        ∙ sym (ap (λ (v : Bool). v || list_any (λ q. p == q) (numbers ss)) b)

found_any : (p : ℕ) (ss : List StalePlan) → is_some (position (is_plan p) ss) ≡ list_any (λ q. p == q) (numbers ss)
found_any p ss = by (nat_lt (position_or_len (is_plan p) ss) (length ss)) ∙ found_first p ss
  where
    by : (v : Bool) → is_some (cond v (Some (position_or_len (is_plan p) ss)) None) ≡ v
    by true = refl
    by false = refl

pub stale_there : (p : ℕ) (ss : List StalePlan) (o : Option ℕ) → o ≡ position (is_plan p) ss → is_some o ≡ true
    → numbers ss ≡ with_stale p (numbers ss)
stale_there p ss o is some =
    let any : list_any (λ q. p == q) (numbers ss) ≡ true = sym (found_any p ss) ∙ sym (ap is_some is) ∙ some in
    sym (ap (λ (v : Bool). cond v (numbers ss) (numbers ss ++ p ∷ [])) any)

pub stale_added : {E : Type 0} (p : ℕ) (ss us : List StalePlan) (o : Option ℕ) (answer : Result (Unit {0}) E)
    → o ≡ position (is_plan p) ss → is_some o ≡ false → OnOk answer (us ≡ ss ++ record { number = p } ∷ [])
    → OnOk answer (numbers us ≡ with_stale p (numbers ss))
stale_added p ss us o (Err e) is none h = tt
stale_added p ss us o (Ok tt) is none h =
    let any : list_any (λ q. p == q) (numbers ss) ≡ false = sym (found_any p ss) ∙ sym (ap is_some is) ∙ none in
    ap numbers h ∙ map-append (λ (s : StalePlan). s.number) ss (record { number = p } ∷ [])
    ∙ sym (ap (λ (v : Bool). cond v (numbers ss) (numbers ss ++ p ∷ [])) any)
