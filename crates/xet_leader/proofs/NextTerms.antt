-- The search for the next term that has bytes.
use Rattle.std.proofs.Common.{◌≡◌, ℕ, ◌+◌, ◌-◌, ◌^◌, ◌<◌, ◌≤◌, false, true, List, [], ◌∷◌, ◌++◌, take, drop, get_or, length, refl, sym, subst, ◌∙◌, ap, arith}
use Rattle.std.specs.Prelude.{All, min, slice_get}
use Rattle.std.proofs.lemmas.List.{append-nil, take-append-drop}
use Rattle.std.proofs.lemmas.List.Elements.{All-append, All-cons, All-nil}
use Rattle.xet_leader.specs.LedTerms.{IsFirstSome, NoneHas, PlanTerm, some_in}
use Rattle.xet_leader.proofs.TermPlaces.{next_is}

-- of all terms some were passed over, which are empty, and these are left
pub record PassedSo (all : List PlanTerm) (empties : ℕ) (rest : List PlanTerm) : Type 0 where
  pub count : ℕ
  pub front : NoneHas (take count all)
  pub back : drop count all ≡ rest
  pub is : empties ≡ min count (2 ^ 64 - 1)

pub none_passed : (all : List PlanTerm) → PassedSo all 0 all
none_passed all = record { count = 0; front = All-nil (λ t. some_in t ≡ false); back = refl; is = omega arith }

pub passed_more : (all : List PlanTerm) (e f : ℕ) (t : PlanTerm) (rest : List PlanTerm) → PassedSo all e (t ∷ rest)
    → some_in t ≡ false → f ≡ min (e + 1) (2 ^ 64 - 1) → PassedSo all f rest
passed_more all e f t rest s none h =
    let x = next_is s.count all t rest s.back in
    let is = s.is in
    record {
      count = s.count + 1;
      front = subst NoneHas (sym x.front) (All-append (λ t. some_in t ≡ false) (take s.count all) (t ∷ []) s.front
          (All-cons (λ t. some_in t ≡ false) t [] none (All-nil (λ t. some_in t ≡ false))));
      back = x.back;
      is = omega (arith, is, h);
    }

pub passed_all : (all : List PlanTerm) (e : ℕ) → PassedSo all e [] → NoneHas all
passed_all all e s =
    let whole : take s.count all ≡ all = sym (append-nil (take s.count all))
    ∙ ap (λ l. take s.count all ++ l) (sym s.back) ∙ take-append-drop s.count all in
    subst NoneHas whole s.front

pub first_here : (all : List PlanTerm) (e : ℕ) (t : PlanTerm) (rest : List PlanTerm) → (s : PassedSo all e (t ∷ rest))
    → some_in t ≡ true → IsFirstSome all s.count t
first_here all e t rest s some =
    let x = next_is s.count all t rest s.back in record { there = x.there; before = s.front; some = some }

-- fewer are left
pub less_left : (all : List PlanTerm) (t : PlanTerm) (rest : List PlanTerm) → all ≡ t ∷ rest
    → length rest < length all
less_left all t rest e = let h = ap length e in let n : length (t ∷ rest) ≡ length rest + 1 = omega arith in
    omega (arith, h, n)
