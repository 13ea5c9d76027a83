-- Each step of a pass keeps the rule.
use Rattle.std.proofs.Common.{ℕ, ◌≡◌, ◌≢◌, ◌+◌, ◌%◌, ◌^◌, ◌<◌, ◌≤◌, min, Bool, true, false, zero, suc, List, [], ◌∷◌, ◌++◌, length, set, refl, sym, ap, ◌∙◌, subst, ⊎_elim, arith, length-append}
use Rattle.std.specs.Prelude.{cond, nat_lt, nat_eq, slice_set, slice_index}
use Rattle.std.proofs.Math.Nat.{mod-eq_of_lt}
use mathlib.Core.Option.{some, some-injective, some-ne-none}
use lib.ListN.{get_elem?}
use Rattle.std.proofs.lemmas.Bool.Decides.{nat_tests}
use Rattle.atomic_table.specs.Table.{Act, keeps, Valid, homes_after, carried_after, Allows, Splits, Joins, step}
use Rattle.atomic_table.proofs.Lists.{at_set, at_snoc, set_here, set_else, set_again}
use Rattle.xet_claims.specs.declared.claim_rule.View.{View}
use Rattle.xet_claims.specs.declared.claim_rule.Limits.{Limits}
use Rattle.xet_claims.specs.ClaimViews.{times, once_below, mark_of, raised_of, gained, missed, halted, saw}
use Rattle.xet_claims.specs.steps.PoolRule.{total, Fits, Facts, Kept, drew, looked, Draws, Halts, Looks, lighter, apart, spent, gathered}

pub total_set : (f : View → ℕ) (views : List View) (i : ℕ) (v w : View) → get_elem? views i ≡ some v → total f (set views i w) + f v ≡ total f views + f w
total_set f [] i v w e = absurd (some-ne-none v (sym e))
total_set f (x ∷ xs) zero v w e = let k : f x ≡ f v = ap f (some-injective x v e) in omega arith
total_set f (x ∷ xs) (suc i) v w e = let k = total_set f xs i v w e in omega arith

pub total_snoc : (f : View → ℕ) (views : List View) (w : View) → total f (views ++ w ∷ []) ≡ total f views + f w
total_snoc f [] w = omega arith
total_snoc f (x ∷ xs) w = let k = total_snoc f xs w in omega arith

pub total_le : (f g : View → ℕ) (views : List View) → ((i : ℕ) (v : View) → get_elem? views i ≡ some v → f v ≤ g v) → total f views ≤ total g views
total_le f g [] h = omega arith
total_le f g (x ∷ xs) h = let a = h 0 x refl in let b = total_le f g xs (λ i v e. h (suc i) v e) in omega arith

pub total_one : (f : View → ℕ) (views : List View) (i : ℕ) (v : View) → get_elem? views i ≡ some v → f v ≤ total f views
total_one f [] i v e = absurd (some-ne-none v (sym e))
total_one f (x ∷ xs) zero v e = let k : f x ≡ f v = ap f (some-injective x v e) in omega arith
total_one f (x ∷ xs) (suc i) v e = let k = total_one f xs i v e in omega arith

pub times_append : (x : ℕ) (ys zs : List ℕ) → times x (ys ++ zs) ≡ times x ys + times x zs
times_append x [] zs = omega arith
times_append x (y ∷ ys) zs = let k = times_append x ys zs in omega arith

-- one number more
once_more : (x n : ℕ) → once_below x (n + 1) ≡ once_below x n + cond (nat_eq n x) 1 0
once_more x n = go (nat_lt x n) (nat_eq n x) (nat_lt x (n + 1)) refl refl refl
  where
    go : (a b c : Bool) → nat_lt x n ≡ a → nat_eq n x ≡ b → nat_lt x (n + 1) ≡ c → cond c 1 0 ≡ cond a 1 0 + cond b 1 0
    go true true c p q r = absurd (grind (arith, nat_tests))
    go true false true p q r = refl
    go true false false p q r = absurd (grind (arith, nat_tests))
    go false true true p q r = refl
    go false true false p q r = absurd (grind (arith, nat_tests))
    go false false true p q r = absurd (grind (arith, nat_tests))
    go false false false p q r = refl

at_length : {A : Type 0} (l : List A) (i : ℕ) (a : A) → get_elem? l i ≡ some a → i < length l
at_length [] i a e = absurd (some-ne-none a (sym e))
at_length (x ∷ xs) zero a e = omega arith
at_length (x ∷ xs) (suc i) a e = let k = at_length xs i a e in omega arith

fits_set : (l : Limits) (views : List View) (id : ℕ) (w : View) → ((i : ℕ) (v : View) → get_elem? views i ≡ some v → Fits l v) → Fits l w → (i : ℕ) (v : View) → get_elem? (set views id w) i ≡ some v → Fits l v
fits_set l views id w h k i u e =
    let P : View → Type 0 = λ y. Fits l y in
    ⊎_elim (λ (t : (i ≡ id) × (w ≡ u)). subst P t.1 k) (λ (t : (i ≢ id) × (get_elem? views i ≡ some u)). h i u t.1) (at_set views id i w u e)

-- the word stays below 2 ^ 64
room : (l : Limits) (taken mark : ℕ) (views : List View) → Facts l taken mark views → taken ≤ l.count + l.passes
room l taken mark views f =
    let le = total_le (λ v. v.misses) (λ v. v.weight) views (λ i v e. (f.fits i v e).misses) in
    let a = f.missed in let b = f.weights in omega arith

gained_facts : (l : Limits) (taken mark id : ℕ) (views : List View) (v : View) → get_elem? views id ≡ some v → v.misses < v.weight → taken < l.count → Facts l taken mark views → Facts l (taken + 1) mark (set views id (gained v taken))
gained_facts l taken mark id views v at under below f =
    let w = gained v taken in
    let own = f.fits id v at in
    record {
      count = f.count;
      passes = f.passes;
      fits = fits_set l views id w f.fits (record { misses = own.misses; idle = λ z. absurd (omega arith); calm = λ z. absurd (omega arith); blind = λ z. absurd (omega arith) });
      weights = let s = total_set (λ v. v.weight) views id v w at in let a = f.weights in omega arith;
      numbers = let s = total_set (λ v. length v.drawn) views id v w at in let a = f.numbers in omega (arith, length-append v.drawn (taken ∷ []));
      missed = let s = total_set (λ v. v.misses) views id v w at in let a = f.missed in omega arith;
      once = λ x.
          let s = total_set (λ v. times x v.drawn) views id v w at in
          let a = f.once x in
          let m : min taken l.count ≡ taken = omega arith in
          let m' : min (taken + 1) l.count ≡ taken + 1 = omega arith in
          let o : once_below x (min taken l.count) ≡ once_below x taken = ap (once_below x) m in
          let o' : once_below x (min (taken + 1) l.count) ≡ once_below x (taken + 1) = ap (once_below x) m' in
          omega (arith, times_append x v.drawn (taken ∷ []), once_more x taken);
      marked = let s = total_set mark_of views id v w at in let e : total mark_of (set views id w) ≡ total mark_of views = omega arith in ap (λ (k : ℕ). min 1 k) e ∙ f.marked;
      raised = let s = total_set raised_of views id v w at in let a = f.raised in omega arith;
    }

missed_facts : (l : Limits) (taken mark id : ℕ) (views : List View) (v : View) → get_elem? views id ≡ some v → v.misses < v.weight → l.count ≤ taken → Facts l taken mark views → Facts l (taken + 1) mark (set views id (missed v))
missed_facts l taken mark id views v at under above f =
    let w = missed v in
    let own = f.fits id v at in
    record {
      count = f.count;
      passes = f.passes;
      fits = fits_set l views id w f.fits (record { misses = omega arith; idle = λ z. absurd (omega arith); calm = λ z. absurd (omega arith); blind = λ z. absurd (omega arith) });
      weights = let s = total_set (λ v. v.weight) views id v w at in let a = f.weights in omega arith;
      numbers = let s = total_set (λ v. length v.drawn) views id v w at in let a = f.numbers in omega arith;
      missed = let s = total_set (λ v. v.misses) views id v w at in let a = f.missed in omega arith;
      once = λ x.
          let s = total_set (λ v. times x v.drawn) views id v w at in
          let a = f.once x in
          let m : min (taken + 1) l.count ≡ min taken l.count = omega arith in
          let e : total (λ v. times x v.drawn) (set views id w) ≡ total (λ v. times x v.drawn) views = omega arith in
          e ∙ (a ∙ ap (once_below x) (sym m));
      marked = let s = total_set mark_of views id v w at in let e : total mark_of (set views id w) ≡ total mark_of views = omega arith in ap (λ (k : ℕ). min 1 k) e ∙ f.marked;
      raised = let s = total_set raised_of views id v w at in let a = f.raised in omega arith;
    }

drew_facts : (l : Limits) (taken mark id : ℕ) (views : List View) (v : View) → get_elem? views id ≡ some v → v.count ≡ l.count → v.misses < v.weight → Facts l taken mark views → Facts l (taken + 1) mark (set views id (drew v taken))
drew_facts l taken mark id views v at same under f = go (nat_lt taken v.count) refl
  where
    go : (b : Bool) → nat_lt taken v.count ≡ b → Facts l (taken + 1) mark (set views id (cond b (gained v taken) (missed v)))
    go true e = let h : taken < v.count = grind (arith, nat_tests) in gained_facts l taken mark id views v at under (omega arith) f
    go false e = let h : v.count ≤ taken = grind (arith, nat_tests) in missed_facts l taken mark id views v at under (omega arith) f

pub draws : (l : Limits) (n id : ℕ) (v : View) (c : List (ℕ × Unit {0})) → v.count ≡ l.count → v.misses < v.weight → Allows (Kept l) n id (v, c) 0 (λ n. (n + 1) % 2 ^ 64) (Draws (step n 0 1 0 mathlib.Core.Option.none) (v, c))
draws l n id v c same under s h slots at bound =
    let P : List ℕ → Type 0 = λ ws. (w : View) × (a : Act (Unit {0})) × Valid s.homes c a × Kept l (record { words = slice_set ws 0 ((slice_index ws 0 + 1) % 2 ^ 64); homes = homes_after s.homes c a; views = slice_set s.views id w })
    × Draws (step n 0 1 0 mathlib.Core.Option.none) (v, c) (slice_index ws 0) (w, carried_after c a) in
    let r = room l h.taken h.mark s.views h.facts in
    let k = h.facts.count in let k' = h.facts.passes in
    let fit : (h.taken + 1) % 2 ^ 64 ≡ h.taken + 1 = mod-eq_of_lt (omega arith) in
    subst P (sym h.words) (drew v h.taken, keeps, tt, record { taken = h.taken + 1; mark = h.mark; words = ap (λ (k : ℕ). k ∷ h.mark ∷ []) fit; facts = drew_facts l h.taken h.mark id s.views v at same under h.facts }, refl)

-- a view that only says stopped besides
stopped_facts : (l : Limits) (taken mark id : ℕ) (views : List View) (v : View) → get_elem? views id ≡ some v → 0 < v.weight → Facts l taken mark views → Facts l taken 1 (set views id (halted v))
stopped_facts l taken mark id views v at heavy f =
    let w = halted v in
    let own = f.fits id v at in
    record {
      count = f.count;
      passes = f.passes;
      fits = fits_set l views id w f.fits (record { misses = own.misses; idle = own.idle; calm = λ z. absurd (omega arith); blind = λ z. absurd (omega arith) });
      weights = let s = total_set (λ v. v.weight) views id v w at in let a = f.weights in omega arith;
      numbers = let s = total_set (λ v. length v.drawn) views id v w at in let a = f.numbers in omega arith;
      missed = let s = total_set (λ v. v.misses) views id v w at in let a = f.missed in omega arith;
      once = λ x. let s = total_set (λ v. times x v.drawn) views id v w at in let a = f.once x in let e : total (λ v. times x v.drawn) (set views id w) ≡ total (λ v. times x v.drawn) views = omega arith in e ∙ a;
      marked = let s = total_set mark_of views id v w at in let o = total_one mark_of views id v at in omega arith;
      raised = let s = total_set raised_of views id v w at in let o = total_one raised_of views id v at in omega arith;
    }

-- the same at a look that found 1
saw_facts : (l : Limits) (taken id : ℕ) (views : List View) (v : View) → get_elem? views id ≡ some v → 0 < v.weight → Facts l taken 1 views → Facts l taken 1 (set views id (saw v))
saw_facts l taken id views v at heavy f =
    let w = saw v in
    let own = f.fits id v at in
    record {
      count = f.count;
      passes = f.passes;
      fits = fits_set l views id w f.fits (record { misses = own.misses; idle = own.idle; calm = own.calm; blind = λ z. absurd (omega arith) });
      weights = let s = total_set (λ v. v.weight) views id v w at in let a = f.weights in omega arith;
      numbers = let s = total_set (λ v. length v.drawn) views id v w at in let a = f.numbers in omega arith;
      missed = let s = total_set (λ v. v.misses) views id v w at in let a = f.missed in omega arith;
      once = λ x. let s = total_set (λ v. times x v.drawn) views id v w at in let a = f.once x in let e : total (λ v. times x v.drawn) (set views id w) ≡ total (λ v. times x v.drawn) views = omega arith in e ∙ a;
      marked = let s = total_set mark_of views id v w at in let o = total_one mark_of views id v at in omega arith;
      raised = let s = total_set raised_of views id v w at in let a = f.raised in omega arith;
    }

pub halts : (l : Limits) (n id : ℕ) (v : View) (c : List (ℕ × Unit {0})) → 0 < v.weight → Allows (Kept l) n id (v, c) 1 (λ _. 1) (λ _. Halts (step n 1 1 0 mathlib.Core.Option.none) (v, c) 1)
halts l n id v c heavy s h slots at bound =
    let P : List ℕ → Type 0 = λ ws. (w : View) × (a : Act (Unit {0})) × Valid s.homes c a × Kept l (record { words = slice_set ws 1 1; homes = homes_after s.homes c a; views = slice_set s.views id w })
    × Halts (step n 1 1 0 mathlib.Core.Option.none) (v, c) 1 (w, carried_after c a) in
    subst P (sym h.words) (halted v, keeps, tt, record { taken = h.taken; mark = 1; words = refl; facts = stopped_facts l h.taken h.mark id s.views v at heavy h.facts }, refl)

looked_facts : (l : Limits) (taken mark id : ℕ) (views : List View) (v : View) → get_elem? views id ≡ some v → 0 < v.weight → Facts l taken mark views → Facts l taken mark (set views id (looked v mark))
looked_facts l taken mark id views v at heavy f = go (nat_eq mark 1) refl
  where
    go : (b : Bool) → nat_eq mark 1 ≡ b → Facts l taken mark (set views id (cond b (saw v) v))
    go true e =
        let h : mark ≡ 1 = grind (arith, nat_tests) in
        let P : ℕ → Type 0 = λ k. Facts l taken k (set views id (saw v)) in
        let Q : ℕ → Type 0 = λ k. Facts l taken k views in
        subst P (sym h) (saw_facts l taken id views v at heavy (subst Q h f))
    go false e = let P : List View → Type 0 = λ vs. Facts l taken mark vs in subst P (sym (set_again views id v at)) f

mark_small : (v : View) → mark_of v ≤ 1
mark_small v = go v.stopped
  where
    go : (b : Bool) → cond b 1 0 ≤ 1
    go true = omega arith
    go false = omega arith

pub looks : (l : Limits) (n id : ℕ) (v : View) (c : List (ℕ × Unit {0})) → 0 < v.weight → Allows (Kept l) n id (v, c) 1 (λ n. n) (Looks (step n 1 0 0 mathlib.Core.Option.none) (v, c))
looks l n id v c heavy s h slots at bound =
    let P : List ℕ → Type 0 = λ ws. (w : View) × (a : Act (Unit {0})) × Valid s.homes c a × Kept l (record { words = slice_set ws 1 (slice_index ws 1); homes = homes_after s.homes c a; views = slice_set s.views id w })
    × Looks (step n 1 0 0 mathlib.Core.Option.none) (v, c) (slice_index ws 1) (w, carried_after c a) in
    let o = total_one mark_of s.views id v at in let m = h.facts.marked in
    let le : mark_of v ≤ h.mark = omega (arith, mark_small v) in
    let small = mark_small v in
    let one : h.mark ≤ 1 = omega arith in
    subst P (sym h.words) (looked v h.mark, keeps, tt, record { taken = h.taken; mark = h.mark; words = refl; facts = looked_facts l h.taken h.mark id s.views v at heavy h.facts }, (refl, le, one))

split_facts : (l : Limits) (taken mark id : ℕ) (views : List View) (v : View) → get_elem? views id ≡ some v → 1 < v.weight → v.misses < v.weight → Facts l taken mark views → Facts l taken mark (set views id (lighter v) ++ apart v ∷ [])
split_facts l taken mark id views v at heavy under f =
    let w = lighter v in
    let u = apart v in
    record {
      count = f.count;
      passes = f.passes;
      fits = λ i y e.
          let P : View → Type 0 = λ y. Fits l y in
          ⊎_elim (λ (t : get_elem? (set views id w) i ≡ some y). fits_set l views id w f.fits (record { misses = omega arith; idle = λ z. absurd (omega arith); calm = λ z. absurd (omega arith); blind = λ z. absurd (omega arith) }) i y t)
          (λ (t : u ≡ y). subst P t (record { misses = omega arith; idle = λ z. refl; calm = λ z. refl; blind = λ z. refl })) (at_snoc (set views id w) u y i e);
      weights = let s = total_set (λ v. v.weight) views id v w at in let k = total_snoc (λ v. v.weight) (set views id w) u in let a = f.weights in omega arith;
      numbers = let s = total_set (λ v. length v.drawn) views id v w at in let k = total_snoc (λ v. length v.drawn) (set views id w) u in let a = f.numbers in omega arith;
      missed = let s = total_set (λ v. v.misses) views id v w at in let k = total_snoc (λ v. v.misses) (set views id w) u in let a = f.missed in omega arith;
      once = λ x.
          let s = total_set (λ v. times x v.drawn) views id v w at in
          let k = total_snoc (λ v. times x v.drawn) (set views id w) u in
          let e : total (λ v. times x v.drawn) (set views id w ++ u ∷ []) ≡ total (λ v. times x v.drawn) views = omega arith in
          e ∙ f.once x;
      marked =
          let s = total_set mark_of views id v w at in
          let k = total_snoc mark_of (set views id w) u in
          let e : total mark_of (set views id w ++ u ∷ []) ≡ total mark_of views = omega arith in
          ap (λ (k : ℕ). min 1 k) e ∙ f.marked;
      raised = let s = total_set raised_of views id v w at in let k = total_snoc raised_of (set views id w) u in let a = f.raised in omega arith;
    }

pub splits : (l : Limits) (id : ℕ) (v : View) → 1 < v.weight → v.misses < v.weight → Splits {S = Unit {0}} (Kept l) id v (lighter v) (apart v)
splits l id v heavy under s h at = record { taken = h.taken; mark = h.mark; words = h.words; facts = split_facts l h.taken h.mark id s.views v at heavy under h.facts }

no_weight : (n m : ℕ) (xs ys : List ℕ) → (n ≡ 0 → xs ≡ []) → (m ≡ 0 → ys ≡ []) → n + m ≡ 0 → xs ++ ys ≡ []
no_weight n m xs ys p q e = let a : xs ≡ [] = p (omega arith) in let b : ys ≡ [] = q (omega arith) in ap (λ l. l ++ ys) a ∙ b

both_false : (n m : ℕ) (a b : Bool) → (n ≡ 0 → a ≡ false) → (m ≡ 0 → b ≡ false) → n + m ≡ 0 → cond a true b ≡ false
both_false n m a b p q e = let x : a ≡ false = p (omega arith) in let y : b ≡ false = q (omega arith) in ap (λ (c : Bool). cond c true b) x ∙ y

raised_small : (v : View) → raised_of v ≤ 1
raised_small v = go v.raised
  where
    go : (b : Bool) → cond b 1 0 ≤ 1
    go true = omega arith
    go false = omega arith

pub raised_both : (v w : View) → (raised_of v ≤ raised_of (gathered v w)) × (raised_of w ≤ raised_of (gathered v w)) × (raised_of (gathered v w) ≤ raised_of v + raised_of w)
raised_both v w = go v.raised w.raised
  where
    go : (a b : Bool) → (cond a 1 0 ≤ cond (cond a true b) 1 0) × (cond b 1 0 ≤ cond (cond a true b) 1 0) × (cond (cond a true b) 1 0 ≤ cond a 1 0 + cond b 1 0)
    go true true = (omega arith, omega arith, omega arith)
    go true false = (omega arith, omega arith, omega arith)
    go false true = (omega arith, omega arith, omega arith)
    go false false = (omega arith, omega arith, omega arith)

pub mark_both : (v w : View) → (mark_of v ≤ mark_of (gathered v w)) × (mark_of w ≤ mark_of (gathered v w)) × (mark_of (gathered v w) ≤ mark_of v + mark_of w)
mark_both v w = go v.stopped w.stopped
  where
    go : (a b : Bool) → (cond a 1 0 ≤ cond (cond a true b) 1 0) × (cond b 1 0 ≤ cond (cond a true b) 1 0) × (cond (cond a true b) 1 0 ≤ cond a 1 0 + cond b 1 0)
    go true true = (omega arith, omega arith, omega arith)
    go true false = (omega arith, omega arith, omega arith)
    go false true = (omega arith, omega arith, omega arith)
    go false false = (omega arith, omega arith, omega arith)

join_facts : (l : Limits) (taken mark id other : ℕ) (views : List View) (v w : View) → get_elem? views id ≡ some v → ¬ (other ≡ id) → get_elem? (set views id (gathered v w)) other ≡ some w → Facts l taken mark views
    → Facts l taken mark (set (set views id (gathered v w)) other spent)
join_facts l taken mark id other views v w at ne there f =
    let b = gathered v w in
    let was : get_elem? views other ≡ some w = sym (set_else views id other b ne) ∙ there in
    let own = f.fits id v at in
    let its = f.fits other w was in
    let one : get_elem? (set views id b) id ≡ some b = set_here views id b (at_length views id v at) in
    let here : get_elem? (set (set views id b) other spent) id ≡ some b = set_else (set views id b) other id spent (λ e. ne (sym e)) ∙ one in
    record {
      count = f.count;
      passes = f.passes;
      fits = fits_set l (set views id b) other spent (fits_set l views id b f.fits (record { misses = let p = own.misses in let q = its.misses in omega arith; idle = no_weight v.weight w.weight v.drawn w.drawn own.idle its.idle; calm = both_false v.weight w.weight v.raised w.raised own.calm its.calm; blind = both_false v.weight w.weight v.stopped w.stopped own.blind its.blind }))
          (record { misses = omega arith; idle = λ z. refl; calm = λ z. refl; blind = λ z. refl });
      weights = let s = total_set (λ v. v.weight) views id v b at in let k = total_set (λ v. v.weight) (set views id b) other w spent there in let a = f.weights in omega arith;
      numbers = let s = total_set (λ v. length v.drawn) views id v b at in let k = total_set (λ v. length v.drawn) (set views id b) other w spent there in let a = f.numbers in omega (arith, length-append v.drawn w.drawn);
      missed = let s = total_set (λ v. v.misses) views id v b at in let k = total_set (λ v. v.misses) (set views id b) other w spent there in let a = f.missed in omega arith;
      once = λ x.
          let s = total_set (λ v. times x v.drawn) views id v b at in
          let k = total_set (λ v. times x v.drawn) (set views id b) other w spent there in
          let e : total (λ v. times x v.drawn) (set (set views id b) other spent) ≡ total (λ v. times x v.drawn) views = omega (arith, times_append x v.drawn w.drawn) in
          e ∙ f.once x;
      marked =
          let s = total_set mark_of views id v b at in
          let k = total_set mark_of (set views id b) other w spent there in
          let m = mark_both v w in
          let o = total_one mark_of (set (set views id b) other spent) id b here in
          let p = mark_small v in let q = mark_small w in let r = mark_small b in
          let e : min 1 (total mark_of (set (set views id b) other spent)) ≡ min 1 (total mark_of views) = omega (arith, m.0, m.1, m.2) in
          e ∙ f.marked;
      raised =
          let s = total_set raised_of views id v b at in
          let k = total_set raised_of (set views id b) other w spent there in
          let m = raised_both v w in
          let o = total_one raised_of (set (set views id b) other spent) id b here in
          let p = raised_small v in let q = raised_small w in let r = raised_small b in
          let a = f.raised in let t = f.marked in
          omega (arith, m.0, m.1, m.2);
    }

pub joins : (l : Limits) (id other : ℕ) (v w : View) → Joins {S = Unit {0}} (Kept l) id v other w (gathered v w) spent
joins l id other v w s h at ne there = record { taken = h.taken; mark = h.mark; words = h.words; facts = join_facts l h.taken h.mark id other s.views v w at ne there h.facts }
