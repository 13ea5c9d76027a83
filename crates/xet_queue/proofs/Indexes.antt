-- An index of waiting values, step by step.
use Rattle.std.proofs.Common.{◌≡◌, ℕ, zero, suc, ◌+◌, ◌≤◌, Bool, true, false, cond, ◌&&◌, ◌==◌, List, [], ◌∷◌, ◌++◌, Option, Some, None, ap, sym, ◌∙◌, refl, arith}
use Rattle.std.specs.Prelude.{nat_lt, slice_get, IsSome}
use Rattle.std.specs.BTreeMap.{BTreeMap, get, insert_entry, is_at, IsOrdered}
use Rattle.std.specs.Map.{keys_of, lookup, remove_entry, values_of}
use Rattle.std.specs.List.Sorted.{IsStrictlySortedBy}
use Rattle.std.specs.Ordering.{is_eq, nat_cmp}
use Rattle.std.specs.Cmp.{tied_then}
use Rattle.std.specs.declared.cmp.Ordering.TheVariants.{Less, Greater}
use Rattle.std.proofs.lemmas.Bool.Decides.{nat_tests}
use Rattle.std.proofs.lemmas.Cmp.{nat_cmp_total}
use Rattle.std.proofs.lemmas.Map.{lookup-none}
use Rattle.std.proofs.lemmas.Map.Entries.{btree_map_get_place, none_below_head}
use Rattle.std.proofs.lemmas.Map.Keys.{sorted_tail}
use Rattle.xet_queue.specs.Waits.{first_with, without_first}
use Rattle.xet_queue.specs.steps.Indexed.{IsFirstNumber, Tied, all_below, mark_of, pair_cmp}

-- ---- numbers

below_head : (b c : Bool) → (b && c) ≡ true → b ≡ true
below_head true c h = refl
below_head false c h = absurd (cc)

below_tail : (b c : Bool) → (b && c) ≡ true → c ≡ true
below_tail true c h = h
below_tail false c h = absurd (cc)

greater : (n m : ℕ) → nat_lt m n ≡ true → nat_cmp n m ≡ Greater
greater n m h = grind (arith, nat_tests)

less : (n m : ℕ) → n ≤ m → is_eq (nat_cmp n m) ≡ false → nat_cmp n m ≡ Less
less n m l h = grind (arith, nat_tests)

same : (n m : ℕ) → is_eq (nat_cmp n m) ≡ true → n ≡ m
same n m h = grind (arith, nat_tests)

eq_is : (n m : ℕ) → is_eq (nat_cmp n m) ≡ (n == m)
eq_is n m = grind (arith, nat_tests)

-- a new greatest number comes last
pub insert_last : {V : Type 0} (n : ℕ) (v : V) (es : List (ℕ × V)) → all_below n es ≡ true → insert_entry nat_cmp es n v ≡ es ++ (n, v) ∷ []
insert_last n v [] h = refl
insert_last n v (e ∷ es) h =
    let g = greater n e.0 (below_head (nat_lt e.0 n) (all_below n es) h) in
    rw g (ap (λ l. e ∷ l) (insert_last n v es (below_tail (nat_lt e.0 n) (all_below n es) h)))

pub values_more : {V : Type 0} (n : ℕ) (v : V) (es : List (ℕ × V)) → values_of (es ++ (n, v) ∷ []) ≡ values_of es ++ v ∷ []
values_more n v [] = refl
values_more n v (e ∷ es) = ap (λ l. e.1 ∷ l) (values_more n v es)

wider : (n m : ℕ) → nat_lt n m ≡ true → nat_lt n (m + 1) ≡ true
wider n m h = grind (arith, nat_tests)

pub below_more : {V : Type 0} (n : ℕ) (v : V) (es : List (ℕ × V)) → all_below n es ≡ true → all_below (n + 1) (es ++ (n, v) ∷ []) ≡ true
below_more n v [] h = let l : nat_lt n (n + 1) ≡ true = grind (arith, nat_tests) in rw l refl
below_more n v (e ∷ es) h =
    let l = wider e.0 n (below_head (nat_lt e.0 n) (all_below n es) h) in
    rw l (below_more n v es (below_tail (nat_lt e.0 n) (all_below n es) h))

-- a number that is not below is not there
pub no_number : {V : Type 0} (n : ℕ) (es : List (ℕ × V)) → all_below n es ≡ true → lookup (is_at (nat_cmp n)) es ≡ None
no_number n [] h = refl
no_number n (e ∷ es) h =
    let g = greater n e.0 (below_head (nat_lt e.0 n) (all_below n es) h) in
    rw g (no_number n es (below_tail (nat_lt e.0 n) (all_below n es) h))

below_rest_at : {V : Type 0} (n k : ℕ) (e : ℕ × V) (es : List (ℕ × V)) (b : Bool) → is_eq (nat_cmp k e.0) ≡ b → nat_lt e.0 n ≡ true → all_below n es ≡ true → all_below n (remove_entry (is_at (nat_cmp k)) es) ≡ true → all_below n (remove_entry (is_at (nat_cmp k)) (e ∷ es)) ≡ true
below_rest_at n k e es true h l a r = rw h a
below_rest_at n k e es false h l a r = rw (h, l) r

pub below_rest : {V : Type 0} (n k : ℕ) (es : List (ℕ × V)) → all_below n es ≡ true → all_below n (remove_entry (is_at (nat_cmp k)) es) ≡ true
below_rest n k [] h = refl
below_rest n k (e ∷ es) h =
    let a = below_tail (nat_lt e.0 n) (all_below n es) h in
    below_rest_at n k e es (is_eq (nat_cmp k e.0)) refl (below_head (nat_lt e.0 n) (all_below n es) h) a (below_rest n k es a)

-- ---- the index

pair_is : (a n b q : ℕ) → is_eq (pair_cmp (a, n) (b, q)) ≡ (is_eq (nat_cmp a b) && is_eq (nat_cmp n q))
pair_is a n b q = sym (tied_then (nat_cmp a b) (nat_cmp n q))

and_false : (b : Bool) → (b && false) ≡ false
and_false true = refl
and_false false = refl

and_true : (b : Bool) → (b && true) ≡ b
and_true true = refl
and_true false = refl

module _ {V : Type 0} (key : V → ℕ) where
  -- one value more
  tied_more_at : (m : BTreeMap ℕ V) (i : BTreeMap (ℕ × ℕ) (Unit {0})) (v : V) (n at q : ℕ) (b : Bool) → is_eq (nat_cmp n q) ≡ b → Tied key m i → get nat_cmp m n ≡ None
      → cond (is_eq (pair_cmp (key v, n) (at, q))) (Some tt) (get pair_cmp i (at, q)) ≡ mark_of key at (cond b (Some v) (get nat_cmp m q))
  tied_more_at m i v n at q true e t none =
      let z = same n q e in
      let g : get pair_cmp i (at, q) ≡ None = t at q ∙ ap (λ o. mark_of key at o) (ap (λ k. get nat_cmp m k) (sym z) ∙ none) in
      rw (pair_is (key v) n at q, e, and_true (is_eq (nat_cmp (key v) at)), eq_is (key v) at, g) refl
  tied_more_at m i v n at q false e t none = rw (pair_is (key v) n at q, e, and_false (is_eq (nat_cmp (key v) at))) (t at q)

  pub tied_more : (m m' : BTreeMap ℕ V) (i i' : BTreeMap (ℕ × ℕ) (Unit {0})) (v : V) (n : ℕ) → Tied key m i → get nat_cmp m n ≡ None
      → ((q : ℕ) → get nat_cmp m' q ≡ cond (is_eq (nat_cmp n q)) (Some v) (get nat_cmp m q))
      → ((q : ℕ × ℕ) → get pair_cmp i' q ≡ cond (is_eq (pair_cmp (key v, n) q)) (Some tt) (get pair_cmp i q))
      → Tied key m' i'
  tied_more m m' i i' v n t none f g at q =
      g (at, q) ∙ tied_more_at m i v n at q (is_eq (nat_cmp n q)) refl t none ∙ ap (λ o. mark_of key at o) (sym (f q))

  -- one that was added to the index alone is out of it again
  tied_back_at : (m : BTreeMap ℕ V) (i : BTreeMap (ℕ × ℕ) (Unit {0})) (a n at q : ℕ) (b c : Bool) → is_eq (nat_cmp n q) ≡ b → is_eq (pair_cmp (a, n) (at, q)) ≡ c → Tied key m i → get nat_cmp m n ≡ None
      → cond c None (cond c (Some tt) (get pair_cmp i (at, q))) ≡ mark_of key at (get nat_cmp m q)
  tied_back_at m i a n at q true true e h t none =
      let z = same n q e in
      let g : get nat_cmp m q ≡ None = ap (λ k. get nat_cmp m k) (sym z) ∙ none in
      rw g refl
  tied_back_at m i a n at q false true e h t none =
      let f : false ≡ true = sym (pair_is a n at q ∙ ap (λ x. is_eq (nat_cmp a at) && x) e ∙ and_false (is_eq (nat_cmp a at))) ∙ h in
      absurd (cc)
  tied_back_at m i a n at q b false e h t none = t at q

  pub tied_back : (m m' : BTreeMap ℕ V) (i j i' : BTreeMap (ℕ × ℕ) (Unit {0})) (a n : ℕ) → Tied key m i → get nat_cmp m n ≡ None
      → ((q : ℕ) → get nat_cmp m' q ≡ get nat_cmp m q)
      → ((q : ℕ × ℕ) → get pair_cmp j q ≡ cond (is_eq (pair_cmp (a, n) q)) (Some tt) (get pair_cmp i q))
      → ((q : ℕ × ℕ) → get pair_cmp i' q ≡ cond (is_eq (pair_cmp (a, n) q)) None (get pair_cmp j q))
      → Tied key m' i'
  tied_back m m' i j i' a n t none f g h at q =
      h (at, q) ∙ ap (λ o. cond (is_eq (pair_cmp (a, n) (at, q))) None o) (g (at, q))
      ∙ tied_back_at m i a n at q (is_eq (nat_cmp n q)) (is_eq (pair_cmp (a, n) (at, q))) refl refl t none
      ∙ ap (λ o. mark_of key at o) (sym (f q))

  -- one value less
  tied_less_at : (m : BTreeMap ℕ V) (i : BTreeMap (ℕ × ℕ) (Unit {0})) (v : V) (k at q : ℕ) (b c : Bool) → is_eq (nat_cmp k q) ≡ b → is_eq (nat_cmp (key v) at) ≡ c → Tied key m i → get nat_cmp m k ≡ Some v
      → cond (is_eq (pair_cmp (key v, k) (at, q))) None (get pair_cmp i (at, q)) ≡ mark_of key at (cond b None (get nat_cmp m q))
  tied_less_at m i v k at q true true e h t there = rw (pair_is (key v) k at q, e, h) refl
  tied_less_at m i v k at q true false e h t there =
      let z = same k q e in
      let w : (key v == at) ≡ false = sym (eq_is (key v) at) ∙ h in
      let g : get pair_cmp i (at, q) ≡ None = t at q ∙ ap (λ o. mark_of key at o) (ap (λ x. get nat_cmp m x) (sym z) ∙ there) ∙ ap (λ x. cond x (Some tt) None) w in
      rw (pair_is (key v) k at q, e, h, g) refl
  tied_less_at m i v k at q false c e h t there = rw (pair_is (key v) k at q, e, and_false (is_eq (nat_cmp (key v) at))) (t at q)

  pub tied_less : (m m' : BTreeMap ℕ V) (i i' : BTreeMap (ℕ × ℕ) (Unit {0})) (v : V) (at k : ℕ) → Tied key m i → get nat_cmp m k ≡ Some v → (key v == at) ≡ true
      → ((q : ℕ) → get nat_cmp m' q ≡ cond (is_eq (nat_cmp k q)) None (get nat_cmp m q))
      → ((q : ℕ × ℕ) → get pair_cmp i' q ≡ cond (is_eq (pair_cmp (at, k) q)) None (get pair_cmp i q))
      → Tied key m' i'
  tied_less m m' i i' v at k t there e f g s q =
      let z : key v ≡ at = same (key v) at (eq_is (key v) at ∙ e) in
      g (s, q) ∙ ap (λ a. cond (is_eq (pair_cmp (a, k) (s, q))) None (get pair_cmp i (s, q))) (sym z)
      ∙ tied_less_at m i v k s q (is_eq (nat_cmp k q)) (is_eq (nat_cmp (key v) s)) refl refl t there
      ∙ ap (λ o. mark_of key s o) (sym (f q))

  -- ---- the first value

  -- no value with this key has a lower number
  abbrev pub IsLeast : ℕ → ℕ → List (ℕ × V) → Type 0
  IsLeast at k es = (i : ℕ) (e : ℕ × V) → slice_get es i ≡ Some e → (key e.1 == at) ≡ true → k ≤ e.0

  pub record IsOldest (at k : ℕ) (v : V) (es : List (ℕ × V)) : Type 0 where
    pub first : first_with key at (values_of es) ≡ Some v
    pub rest : values_of (remove_entry (is_at (nat_cmp k)) es) ≡ without_first key at (values_of es)

  oldest_at : (at k : ℕ) (v : V) (e : ℕ × V) (es : List (ℕ × V)) (b c : Bool) → is_eq (nat_cmp k e.0) ≡ b → (key e.1 == at) ≡ c
      → IsStrictlySortedBy nat_cmp (keys_of (e ∷ es)) → lookup (is_at (nat_cmp k)) (e ∷ es) ≡ Some v → (key v == at) ≡ true → IsLeast at k (e ∷ es)
      → (lookup (is_at (nat_cmp k)) es ≡ Some v → IsOldest at k v es) → IsOldest at k v (e ∷ es)
  oldest_at at k v e es true c eb ec s l h m r =
      let f : ◌≡◌ {A = Option V} (Some e.1) (Some v) = rw eb at l in
      let z : e.1 ≡ v = cc in
      let w : (key e.1 == at) ≡ true = ap (λ x. key x == at) z ∙ h in
      record { first = rw w f; rest = rw (eb, w) refl }
  oldest_at at k v e es false true eb ec s l h m r =
      let d = m zero e refl ec in
      let n : lookup (is_at (nat_cmp k)) (e ∷ es) ≡ None = lookup-none (is_at (nat_cmp k)) (e ∷ es) (none_below_head nat_cmp_total k e es s (less k e.0 d eb)) in
      let f : ◌≡◌ {A = Option V} None (Some v) = sym n ∙ l in
      absurd (cc)
  oldest_at at k v e es false false eb ec s l h m r =
      let f : lookup (is_at (nat_cmp k)) es ≡ Some v = rw eb at l in
      let q = r f in
      record { first = rw ec q.first; rest = rw (eb, ec) (ap (λ l. e.1 ∷ l) q.rest) }

  pub oldest : (at k : ℕ) (v : V) (es : List (ℕ × V)) → IsStrictlySortedBy nat_cmp (keys_of es) → lookup (is_at (nat_cmp k)) es ≡ Some v → (key v == at) ≡ true → IsLeast at k es → IsOldest at k v es
  oldest at k v [] s l h m = absurd (cc)
  oldest at k v (e ∷ es) s l h m =
      oldest_at at k v e es (is_eq (nat_cmp k e.0)) (key e.1 == at) refl refl s l h m
      (λ f. oldest at k v es (sorted_tail nat_cmp e.0 (keys_of es) s) f h (λ i x g w. m (suc i) x g w))

  -- none has this key
  abbrev pub HasNone : ℕ → List (ℕ × V) → Type 0
  HasNone at es = (i : ℕ) (e : ℕ × V) → slice_get es i ≡ Some e → (key e.1 == at) ≡ false

  pub none_first : (at : ℕ) (es : List (ℕ × V)) → HasNone at es → first_with key at (values_of es) ≡ None
  none_first at [] h = refl
  none_first at (e ∷ es) h = let z = h zero e refl in rw z (none_first at es (λ i x g. h (suc i) x g))

  pub none_without : (at : ℕ) (es : List (ℕ × V)) → HasNone at es → without_first key at (values_of es) ≡ values_of es
  none_without at [] h = refl
  none_without at (e ∷ es) h = let z = h zero e refl in rw z (ap (λ l. e.1 ∷ l) (none_without at es (λ i x g. h (suc i) x g)))

  -- what the index says of the values
  mark_none : (at : ℕ) (v : V) (b : Bool) → (key v == at) ≡ b → ◌≡◌ {A = Option (Unit {0})} (cond b (Some tt) None) None → b ≡ false
  mark_none at v true e h = absurd (cc)
  mark_none at v false e h = refl

  pub has_none : (at : ℕ) (m : BTreeMap ℕ V) (i : BTreeMap (ℕ × ℕ) (Unit {0})) → IsOrdered nat_cmp m → Tied key m i → IsFirstNumber i at None → HasNone at m.entries
  has_none at m i s t n j e g =
      let there = btree_map_get_place nat_cmp_total m j e.0 e.1 s g in
      mark_none at e.1 (key e.1 == at) refl (ap (λ o. mark_of key at o) (sym there) ∙ sym (t at e.0) ∙ n e.0)

  pub record Found (at k : ℕ) (m : BTreeMap ℕ V) : Type 0 where
    pub value : V
    pub there : get nat_cmp m k ≡ Some value
    pub has : (key value == at) ≡ true
    pub oldest : IsOldest at k value m.entries

  mark_some : (at : ℕ) (o : Option V) → IsSome (mark_of key at o) → (v : V) × (o ≡ Some v) × ((key v == at) ≡ true)
  mark_some at None h = absurd (cc)
  mark_some at (Some v) h = (v, refl, some_at (key v == at) h)
    where
      some_at : (b : Bool) → IsSome {T = Unit {0}} (cond b (Some tt) None) → b ≡ true
      some_at true h = refl
      some_at false h = absurd (cc)

  is_marked : (at : ℕ) (v : V) → (key v == at) ≡ true → IsSome (mark_of key at (Some v))
  is_marked at v h = rw h refl

  pub found : (at k : ℕ) (m : BTreeMap ℕ V) (i : BTreeMap (ℕ × ℕ) (Unit {0})) → IsOrdered nat_cmp m → Tied key m i → IsFirstNumber i at (Some k) → Found at k m
  found at k m i s t n =
      let q = mark_some at (get nat_cmp m k) (rw (t at k) at n.0) in
      record {
        value = q.0;
        there = q.1;
        has = q.2;
        oldest = oldest at k q.0 m.entries s q.1 q.2 (λ j e g w.
            let there = btree_map_get_place nat_cmp_total m j e.0 e.1 s g in
            n.1 e.0 (rw (t at e.0, there) (is_marked at e.1 w)));
      }
