-- Passes that are put together one by one, and what the last one then knows.
use Rattle.std.proofs.Common.{ℕ, ◌≡◌, ◌+◌, ◌<◌, ◌≤◌, min, zero, suc, List, [], ◌∷◌, ◌++◌, length, refl, sym, ap, ◌∙◌, subst, arith, Some}
use Rattle.std.specs.Prelude.{All, Bool, cond}
use Rattle.std.proofs.lemmas.List.Elements.{All-pop}
use mathlib.Core.Option.{some, some-injective, some-ne-none}
use lib.ListN.{get_elem?}
use Rattle.atomic_table.specs.Table.{State, Final, Seen}
use Rattle.xet_claims.specs.declared.claims.Claims.{Claims}
use Rattle.xet_claims.specs.declared.claims.ClaimPass.{ClaimPass}
use Rattle.xet_claims.specs.declared.claim_rule.View.{View}
use Rattle.xet_claims.specs.declared.claim_rule.Limits.{Limits}
use Rattle.xet_claims.specs.ClaimViews.{times, once_below, mark_of, raised_of}
use Rattle.xet_claims.specs.steps.PoolRule.{total, Kept, gathered}
use Rattle.xet_claims.specs.ClaimPasses.{pass_view, weight_of, misses_of, drawn_of, raised_count, stopped_count}
use Rattle.xet_claims.proofs.PoolSteps.{total_one, times_append, raised_both, mark_both}

weight_last : (ps : List ClaimPass) (p : ClaimPass) → weight_of (ps ++ p ∷ []) ≡ weight_of ps + (pass_view p).weight
weight_last [] p = omega arith
weight_last (q ∷ ps) p = let k = weight_last ps p in omega arith

misses_last : (ps : List ClaimPass) (p : ClaimPass) → misses_of (ps ++ p ∷ []) ≡ misses_of ps + (pass_view p).misses
misses_last [] p = omega arith
misses_last (q ∷ ps) p = let k = misses_last ps p in omega arith

times_last : (x : ℕ) (ps : List ClaimPass) (p : ClaimPass) → times x (drawn_of (ps ++ p ∷ [])) ≡ times x (drawn_of ps) + times x (pass_view p).drawn
times_last x [] p = omega (arith, times_append x (pass_view p).drawn [])
times_last x (q ∷ ps) p = let k = times_last x ps p in omega (arith, times_append x (pass_view q).drawn (drawn_of (ps ++ p ∷ [])), times_append x (pass_view q).drawn (drawn_of ps))

raised_last : (ps : List ClaimPass) (p : ClaimPass) → raised_count (ps ++ p ∷ []) ≡ raised_count ps + raised_of (pass_view p)
raised_last [] p = omega arith
raised_last (q ∷ ps) p = let k = raised_last ps p in omega arith

stopped_last : (ps : List ClaimPass) (p : ClaimPass) → stopped_count (ps ++ p ∷ []) ≡ stopped_count ps + mark_of (pass_view p)
stopped_last [] p = omega arith
stopped_last (q ∷ ps) p = let k = stopped_last ps p in omega arith

-- one view holds what was taken out of all, and the rest is to come
pub record Closing (all rest : List ClaimPass) (v : View) : Type 0 where
  pub weight : v.weight + weight_of rest ≡ weight_of all
  pub misses : v.misses + misses_of rest ≡ misses_of all
  pub drawn : (x : ℕ) → times x v.drawn + times x (drawn_of rest) ≡ times x (drawn_of all)
  pub raised : raised_of v + raised_count rest ≤ raised_count all
  pub stopped : mark_of v ≡ 0 → stopped_count all ≡ stopped_count rest

pub closing_starts : (all rest : List ClaimPass) (p : ClaimPass) → all ≡ rest ++ p ∷ [] → Closing all rest (pass_view p)
closing_starts all rest p e = record {
  weight = let k : weight_of all ≡ weight_of (rest ++ p ∷ []) = ap weight_of e in omega (arith, weight_last rest p);
  misses = let k : misses_of all ≡ misses_of (rest ++ p ∷ []) = ap misses_of e in omega (arith, misses_last rest p);
  drawn = λ x. let k : times x (drawn_of all) ≡ times x (drawn_of (rest ++ p ∷ [])) = ap (λ l. times x (drawn_of l)) e in omega (arith, times_last x rest p);
  raised = let k : raised_count all ≡ raised_count (rest ++ p ∷ []) = ap raised_count e in omega (arith, raised_last rest p);
  stopped = λ z. let k : stopped_count all ≡ stopped_count (rest ++ p ∷ []) = ap stopped_count e in omega (arith, stopped_last rest p);
}

pub closing_goes_on : (all rest left : List ClaimPass) (v w : View) (p : ClaimPass) → Closing all rest v → rest ≡ left ++ p ∷ [] → w ≡ gathered v (pass_view p) → Closing all left w
closing_goes_on all rest left v w p c e same =
    let P : View → Type 0 = λ y. Closing all left y in
    subst P (sym same) (record {
      weight = let k : weight_of rest ≡ weight_of (left ++ p ∷ []) = ap weight_of e in let a = c.weight in omega (arith, weight_last left p);
      misses = let k : misses_of rest ≡ misses_of (left ++ p ∷ []) = ap misses_of e in let a = c.misses in omega (arith, misses_last left p);
      drawn = λ x. let k : times x (drawn_of rest) ≡ times x (drawn_of (left ++ p ∷ [])) = ap (λ l. times x (drawn_of l)) e in let a = c.drawn x in omega (arith, times_last x left p, times_append x v.drawn (pass_view p).drawn);
      raised = let k : raised_count rest ≡ raised_count (left ++ p ∷ []) = ap raised_count e in let a = c.raised in let m = raised_both v (pass_view p) in omega (arith, raised_last left p, m.2);
      stopped = λ z.
          let m = mark_both v (pass_view p) in
          let zero_v : mark_of v ≡ 0 = omega (arith, m.0) in
          let zero_p : mark_of (pass_view p) ≡ 0 = omega (arith, m.1) in
          let k : stopped_count rest ≡ stopped_count (left ++ p ∷ []) = ap stopped_count e in
          let a = c.stopped zero_v in
          omega (arith, stopped_last left p);
    })

none_left : (f g : View → ℕ) (views : List View) → ((i : ℕ) (v : View) → get_elem? views i ≡ some v → g v ≡ 0 → f v ≡ 0) → total g views ≡ 0 → total f views ≡ 0
none_left f g [] h e = refl
none_left f g (x ∷ xs) h e = let a : f x ≡ 0 = h 0 x refl (omega arith) in let b = none_left f g xs (λ i v p. h (suc i) v p) (omega arith) in omega arith

-- where one view has all the weight, it has all that goes with weight
only_one : (f g : View → ℕ) (views : List View) (i : ℕ) (v : View) → get_elem? views i ≡ some v → ((j : ℕ) (u : View) → get_elem? views j ≡ some u → g u ≡ 0 → f u ≡ 0) → total g views ≡ g v → total f views ≡ f v
only_one f g [] i v at h e = absurd (some-ne-none v (sym at))
only_one f g (x ∷ xs) zero v at h e =
    let p : g x ≡ g v = ap g (some-injective x v at) in let q : f x ≡ f v = ap f (some-injective x v at) in
    let r = none_left f g xs (λ j u a. h (suc j) u a) (omega arith) in omega arith
only_one f g (x ∷ xs) (suc i) v at h e =
    let o = total_one g xs i v at in
    let z : f x ≡ 0 = h 0 x refl (omega arith) in
    let r = only_one f g xs i v at (λ j u a. h (suc j) u a) (omega arith) in omega arith

-- what a view with all the weight knows of the last state
pub record Whole (l : Limits) (n : ℕ) (v : View) : Type 0 where
  pub once : (x : ℕ) → times x v.drawn ≡ once_below x (min n l.count)
  pub none : 0 < v.misses → l.count ≤ n
  pub quiet : raised_of v ≡ 0 → mark_of v ≡ 0

pub whole : (l : Limits) (s : State (Unit {0}) View) (id : ℕ) (v : View) (n : ℕ) → Kept l s → get_elem? s.views id ≡ some v → v.weight ≡ l.passes → get_elem? s.words 0 ≡ some n → Whole l n v
whole l s id v n h at heavy word =
    let there : h.taken ≡ n = some-injective h.taken n (sym (ap (λ ws. get_elem? ws 0) h.words) ∙ word) in
    let f = h.facts in
    let all : total (λ v. v.weight) s.views ≡ v.weight = f.weights ∙ sym heavy in
    record {
      once = λ x.
          let only = only_one (λ v. times x v.drawn) (λ v. v.weight) s.views id v at (λ j u a z. ap (times x) ((f.fits j u a).idle z)) all in
          sym only ∙ (f.once x ∙ ap (λ (k : ℕ). once_below x (min k l.count)) there);
      none = λ some_missed. let o = total_one (λ v. v.misses) s.views id v at in let m = f.missed in omega arith;
      quiet = λ z.
          let only = only_one raised_of (λ v. v.weight) s.views id v at (λ j u a y. ap (λ (b : Bool). cond b 1 0) ((f.fits j u a).calm y)) all in
          let r = f.raised in let m = f.marked in
          let o = total_one mark_of s.views id v at in
          omega arith;
    }

pub popped : {X : Type 0} (P : X → Type 0) (xs ys : List X) (x : X) → xs ≡ ys ++ x ∷ [] → All P xs → All P ys × P x
popped P xs ys x e h = All-pop P xs ys (Some x) e h

empty : {X : Type 0} (xs : List X) → length xs ≡ 0 → xs ≡ []
empty [] e = refl
empty (x ∷ xs) e = absurd (omega arith)

-- the last view has all the weight, and what it knows is known of the passes
pub closed : (all rest : List ClaimPass) (v : View) (c : Claims) (l : Limits) (id n : ℕ) (ws : List ℕ) (xs : List (Unit {0})) → Closing all rest v → length rest ≡ 0 → weight_of all ≡ l.passes
    → Final (Seen (Kept l) id v) ws xs → get_elem? ws 0 ≡ some n → ((x : ℕ) → times x (drawn_of all) ≡ once_below x (min n l.count)) × (0 < misses_of all → min n l.count ≡ l.count) × (raised_count all ≡ 0 → stopped_count all ≡ 0)
closed all rest v c l id n ws xs k none heavy fin word =
    let s = fin.0 in
    let e : rest ≡ [] = empty rest none in
    let zero_weight : weight_of rest ≡ 0 = ap weight_of e in
    let zero_misses : misses_of rest ≡ 0 = ap misses_of e in
    let w = whole l s id v n fin.1.0 fin.1.1 (let a = k.weight in omega arith) (ap (λ l. get_elem? l 0) fin.2 ∙ word) in (
      (λ x. let z : times x (drawn_of rest) ≡ 0 = ap (λ l. times x (drawn_of l)) e in let a = k.drawn x in let b = w.once x in omega arith),
      (λ some_missed. let a = k.misses in let b = w.none (omega arith) in omega arith),
      (λ none_raised.
          let a = k.raised in
          let zero_stopped : stopped_count rest ≡ 0 = ap stopped_count e in
          let q = w.quiet (omega arith) in
          let b = k.stopped q in
          omega arith),
    )
