-- How many answers may stand in place of replies.
use Rattle.std.proofs.Common.{◌≡◌, ℕ, ◌+◌, ◌*◌, ◌≤◌, ◌==◌, cond, List, [], ◌∷◌, ◌++◌, ap, arith, ⊎_elim}
use Rattle.std.specs.Prelude.{count_by}
use Rattle.std.proofs.lemmas.List.Sums.{sum_by-append}
use Rattle.xet_outside.specs.Told.{ClientTold, Rose}
use Rattle.xet_ties.specs.Causes.{HaveExpired, LowestRose, NoneAtEnd, total_expiries}
use Rattle.xet_ties.specs.InCall.{Exchange}
use Rattle.xet_ties.specs.Setup.{ClientGoesOn, EachGoesOn}
use Rattle.xet_serve.specs.Sessions.{FewFail, NoFaultsAtEnd, total_faults}

-- ---- counts don't fall

faults_on : (cs ds : List ClientTold) → EachGoesOn cs ds → total_faults cs ≤ total_faults ds
faults_on [] [] g = omega arith
faults_on [] (d ∷ ds) g = absurd g
faults_on (c ∷ cs) [] g = absurd g
faults_on (c ∷ cs) (d ∷ ds) g = let a = g.0.faults in let b = faults_on cs ds g.1 in omega (arith, a, b)

expiries_on : (cs ds : List ClientTold) → EachGoesOn cs ds → total_expiries cs ≤ total_expiries ds
expiries_on [] [] g = omega arith
expiries_on [] (d ∷ ds) g = absurd g
expiries_on (c ∷ cs) [] g = absurd g
expiries_on (c ∷ cs) (d ∷ ds) g = let a = g.0.expiries in let b = expiries_on cs ds g.1 in omega (arith, a, b)

faults_before : (cs ds : List ClientTold) → EachGoesOn cs ds → NoFaultsAtEnd ds → NoFaultsAtEnd cs
faults_before [] [] g h = tt
faults_before [] (d ∷ ds) g h = absurd g
faults_before (c ∷ cs) [] g h = absurd g
faults_before (c ∷ cs) (d ∷ ds) g h = (let a = g.0.faults in let b = h.0 in omega (arith, a, b), faults_before cs ds g.1 h.1)

expiries_before : (cs ds : List ClientTold) → EachGoesOn cs ds → NoneAtEnd ds → NoneAtEnd cs
expiries_before [] [] g h = tt
expiries_before [] (d ∷ ds) g h = absurd g
expiries_before (c ∷ cs) [] g h = absurd g
expiries_before (c ∷ cs) (d ∷ ds) g h =
    (let a = g.0.expiries in let b = h.0 in omega (arith, a, b), expiries_before cs ds g.1 h.1)

-- ---- one answer

-- the reply itself
pub no_fail : (tries : ℕ) (cs ds : List ClientTold) → EachGoesOn cs ds → FewFail tries (0 ∷ []) cs ds
no_fail tries cs ds g = record {
  faults = λ _. let a = faults_on cs ds g in omega (arith, a);
  expired = λ _. let a = expiries_on cs ds g in omega (arith, a);
}

-- none
pub none_fail : (tries : ℕ) (cs ds : List ClientTold) → EachGoesOn cs ds → FewFail tries [] cs ds
none_fail tries cs ds g = record {
  faults = λ _. let a = faults_on cs ds g in omega (arith, a);
  expired = λ _. let a = expiries_on cs ds g in omega (arith, a);
}

-- the faults of some connection rose
some_more : (Q : Exchange → Type 0) (cs ds : List ClientTold) (xs : List Exchange) → EachGoesOn cs ds
    → LowestRose Q cs ds xs → NoFaultsAtEnd ds → total_faults cs + 1 ≤ total_faults ds
some_more Q [] ds xs g h e = absurd h
some_more Q (c ∷ cs) [] xs g h e = absurd h
some_more Q (c ∷ cs) (d ∷ ds) [] g h e = absurd h
some_more Q (c ∷ cs) (d ∷ ds) (x ∷ xs) g h e = ⊎_elim
    (λ (r : Rose c.faults d.faults). let a = e.0 in let b = faults_on cs ds g.1 in omega (arith, a, b, r))
    (λ (r : LowestRose Q cs ds xs). let a = g.0.faults in let b = some_more Q cs ds xs g.1 r e.1 in omega (arith, a, b))
    h.1

pub fault_fails : (tries : ℕ) (Q : Exchange → Type 0) (cs ds : List ClientTold) (xs : List Exchange) → EachGoesOn cs ds
    → LowestRose Q cs ds xs → FewFail tries (2 ∷ []) cs ds
fault_fails tries Q cs ds xs g h = record {
  faults = λ e. let a = some_more Q cs ds xs g h e in omega (arith, a);
  expired = λ _. let a = expiries_on cs ds g in omega (arith, a);
}

-- those of the first one
pub first_fails : (tries : ℕ) (c d : ClientTold) (cs : List ClientTold) → ClientGoesOn c d → Rose c.faults d.faults
    → FewFail tries (2 ∷ []) (c ∷ cs) (d ∷ cs)
first_fails tries c d cs g r = record {
  faults = λ e. let a = e.0 in omega (arith, a, r);
  expired = λ _. let a = g.expiries in omega (arith, a);
}

pub late_fails : (tries : ℕ) (cs ds : List ClientTold) (xs : List Exchange) → EachGoesOn cs ds
    → HaveExpired tries xs cs ds → FewFail tries (4 ∷ []) cs ds
late_fails tries cs ds xs g h = record {
  faults = λ _. let a = faults_on cs ds g in omega (arith, a);
  expired = λ e. let a = h.counted e in omega (arith, a);
}

-- ---- several

both_times : (a b tries : ℕ) → (a + b) * tries ≡ a * tries + b * tries
both_times a b tries = grind arith

-- answers, and then others
pub fails_both : (tries : ℕ) (ks js : List ℕ) (cs ds es : List ClientTold) → EachGoesOn ds es
    → FewFail tries ks cs ds → FewFail tries js ds es → FewFail tries (ks ++ js) cs es
fails_both tries ks js cs ds es g p q = record {
  faults = λ e.
      let a = p.faults (faults_before ds es g e) in
      let b = q.faults e in
      let c = sum_by-append (λ (k : ℕ). cond (k == 2) 1 0) ks js in
      omega (arith, a, b, c);
  expired = λ e.
      let a = p.expired (expiries_before ds es g e) in
      let b = q.expired e in
      let c = sum_by-append (λ (k : ℕ). cond (k == 4) 1 0) ks js in
      let d = both_times (count_by (λ (k : ℕ). k == 4) ks) (count_by (λ (k : ℕ). k == 4) js) tries in
      let f = ap (λ (n : ℕ). n * tries) c in
      omega (arith, a, b, d, f);
}

-- earlier and later calls without any
pub fails_from : (tries : ℕ) (ks : List ℕ) (cs ds es : List ClientTold) → EachGoesOn cs ds → EachGoesOn ds es
    → FewFail tries ks ds es → FewFail tries ks cs es
fails_from tries ks cs ds es f g p = fails_both tries [] ks cs ds es g (none_fail tries cs ds f) p

pub fails_to : (tries : ℕ) (ks : List ℕ) (cs ds es : List ClientTold) → EachGoesOn ds es
    → FewFail tries ks cs ds → FewFail tries ks cs es
fails_to tries ks cs ds es g p = record {
  faults = λ e. let a = p.faults (faults_before ds es g e) in let b = faults_on ds es g in omega (arith, a, b);
  expired = λ e. let a = p.expired (expiries_before ds es g e) in let b = expiries_on ds es g in omega (arith, a, b);
}
