-- Elements of mapped, filtered and searched lists.
use Rattle.std.proofs.Common.{◌≡◌, ℕ, zero, suc, ◌+◌, ◌<◌, Bool, true, false, cond, ◌||◌, List, [], ◌∷◌, ◌++◌, length, map, get_or, refl, sym, ◌∙◌, ap, arith, ⊎_elim, Option, Some, None, Contains, All, AllPairs, Any, ◌⊎◌, sum_by, flat_map}
use Rattle.std.specs.Prelude.{filter, find, is_some}
use Rattle.std.specs.List.{list_any}
use Rattle.std.proofs.lemmas.Bool.{cases_order, cond-true, true≢false, false≢true}
use Rattle.std.proofs.lemmas.List.{get_or_default, length-map, get_or-map}
use Rattle.std.proofs.lemmas.List.Elements.{All-contains, All-contains_itself, All-filter, Contains-get_or, filter_passes}
use Rattle.std.proofs.lemmas.List.Sums.{sum_by-cons}
use Rattle.std.proofs.lemmas.List.Folds.{Any-from_list_any, list_any-from_Any}
use Rattle.xet_base.specs.declared.merklehash.MerkleHash.{MerkleHash}
use Rattle.xet_base.specs.Hashes.{hash_eq}
use Rattle.xet_base.proofs.CallerLemmas.{find_some, hash_eq-true, eq-hash_eq, hash_eq-own}

-- an element of the rest of a list
contains-later : {A : Type 0} (y : A) (xs : List A) (x : A) → Contains xs x → Contains (y ∷ xs) x
contains-later y xs x c = (suc c.0, omega (arith, c.1), c.2)

-- the element that a mapped one comes of
pub record MapOf {A B : Type 0} (f : A → B) (xs : List A) (y : B) : Type 0 where
  pub of : A
  pub within : Contains xs of
  pub is : f of ≡ y

pub contains_map : {A B : Type 0} (f : A → B) (xs : List A) (x : A) → Contains xs x → Contains (map f xs) (f x)
contains_map f xs x c = (c.0, omega (arith, c.1, length-map xs f), get_or-map f xs c.0 x (f x) c.1 ∙ ap f c.2)

pub map_of : {A B : Type 0} (f : A → B) (xs : List A) (y : B) → Contains (map f xs) y → MapOf f xs y
map_of f [] y c = absurd (omega (arith, c.1))
map_of {A} {B} f (x ∷ xs) y c = go c.0 c.1 c.2 (λ d. map_of f xs y d)
  where
    go : (k : ℕ) → k < length (map f (x ∷ xs)) → get_or (map f (x ∷ xs)) k y ≡ y → (Contains (map f xs) y → MapOf f xs y)
        → MapOf f (x ∷ xs) y
    go zero l e next = record { of = x; within = (zero, omega arith, refl); is = e }
    go (suc k) l e next =
        let m = next (k, omega (arith, l), e) in
        record { of = m.of; within = contains-later x xs m.of m.within; is = m.is }

-- what a filter keeps
pub contains_filter : {A : Type 0} (p : A → Bool) (xs : List A) (x : A) → Contains xs x → p x ≡ true → Contains (filter p xs) x
contains_filter p [] x c h = absurd (omega (arith, c.1))
contains_filter {A} p (y ∷ ys) x c h = go c.0 c.1 c.2 (p y) refl (λ d. contains_filter p ys x d h)
  where
    go : (k : ℕ) → k < length (y ∷ ys) → get_or (y ∷ ys) k x ≡ x → (b : Bool) → p y ≡ b
        → (Contains ys x → Contains (filter p ys) x) → Contains (cond b (y ∷ filter p ys) (filter p ys)) x
    go zero l e true f next = (zero, omega arith, e)
    go zero l e false f next = absurd (false≢true (sym f ∙ ap p e ∙ h))
    go (suc k) l e true f next = contains-later y (filter p ys) x (next (k, omega (arith, l), e))
    go (suc k) l e false f next = next (k, omega (arith, l), e)

pub filter_of : {A : Type 0} (p : A → Bool) (xs : List A) (x : A) → Contains (filter p xs) x → Contains xs x × (p x ≡ true)
filter_of p xs x c = (
  All-contains (λ y. Contains xs y) (filter p xs) x (All-filter p (λ y. Contains xs y) xs (All-contains_itself xs)) c,
  All-contains (λ y. p y ≡ true) (filter p xs) x (filter_passes p xs) c,
)

-- an element that passes, and that there is one
pub record Passes {A : Type 0} (p : A → Bool) (xs : List A) : Type 0 where
  pub one : A
  pub within : Contains xs one
  pub passes : p one ≡ true

pub passes_of : {A : Type 0} (p : A → Bool) (xs : List A) → list_any p xs ≡ true → Passes p xs
passes_of p xs h =
    let found = Any-from_list_any p xs h in
    record { one = found.1; within = (found.0, found.2, found.3); passes = found.4 }

pub any_of : {A : Type 0} (p : A → Bool) (xs : List A) (x : A) → Contains xs x → p x ≡ true → list_any p xs ≡ true
any_of p xs x c h = list_any-from_Any p xs (c.0, x, c.1, c.2, h)

-- what is found
pub find_of : {A : Type 0} (p : A → Bool) (xs : List A) (x : A) → find p xs ≡ Some x → Contains xs x × (p x ≡ true)
find_of p [] x h = absurd (let none : None ≡ Some x = h in cc)
find_of {A} p (y ∷ ys) x h = go (p y) refl h (λ k. find_of p ys x k)
  where
    go : (b : Bool) → p y ≡ b → cond b (Some y) (find p ys) ≡ Some x → (find p ys ≡ Some x → Contains ys x × (p x ≡ true))
        → Contains (y ∷ ys) x × (p x ≡ true)
    go true e k next = let same : y ≡ x = cc in ((zero, omega arith, same), sym (ap p same) ∙ e)
    go false e k next = let later = next k in (contains-later y ys x later.0, later.1)

-- an option with a value
pub record Filled {A : Type 0} (o : Option A) : Type 0 where
  pub value : A
  pub is : o ≡ Some value

pub filled : {A : Type 0} (o : Option A) → is_some o ≡ true → Filled o
filled None h = absurd (false≢true h)
filled (Some x) h = record { value = x; is = refl }

-- ---- elements whose hashes differ

module _ {A : Type 0} (key : A → MerkleHash) (xs : List A) (apart : AllPairs (λ a b. hash_eq (key a) (key b) ≡ false) xs) where
  -- two with one hash are the same
  pub apart_same : (x y : A) → Contains xs x → Contains xs y → key x ≡ key y → x ≡ y
  apart_same x y c d e = ⊎_elim (λ (same : c.0 ≡ d.0). at_one same) (λ (other : (c.0 < d.0) ⊎ (d.0 < c.0)). ⊎_elim
      (λ (less : c.0 < d.0). absurd (clash x y c d e less)) (λ (more : d.0 < c.0).
      absurd (clash y x d c (sym e) more)) other) (cases_order c.0 d.0)
    where
      clash : (x y : A) (c : Contains xs x) (d : Contains xs y) → key x ≡ key y → c.0 < d.0 → ⊥
      clash x y c d e less =
          let differ = apart c.0 d.0 x less d.1 in
          let at_d : get_or xs d.0 x ≡ y = get_or_default xs d.0 x y d.1 ∙ d.2 in
          let f : hash_eq (key x) (key y) ≡ false = sym (ap (λ (z : A). hash_eq (key z) (key (get_or xs d.0 x))) c.2
          ∙ ap (λ (z : A). hash_eq (key x) (key z)) at_d) ∙ differ in
          true≢false (sym (eq-hash_eq (key x) (key y) e) ∙ f)

      at_one : c.0 ≡ d.0 → x ≡ y
      at_one same = sym c.2 ∙ ap (λ (k : ℕ). get_or xs k x) same ∙ get_or_default xs d.0 x y d.1 ∙ d.2

  -- so each is what its hash finds
  pub apart_found : (x : A) → Contains xs x → find (λ y. hash_eq (key y) (key x)) xs ≡ Some x
  apart_found x c =
      let found = find_some (λ y. hash_eq (key y) (key x)) xs (any_of (λ y. hash_eq (key y) (key x)) xs x c
      (hash_eq-own (key x))) in
      let within = find_of (λ y. hash_eq (key y) (key x)) xs found.0 found.1 in
      let same = apart_same found.0 x within.0 c (hash_eq-true (key found.0) (key x) found.2) in
      found.1 ∙ ap Some same

-- ---- lists by their elements

pub all_from_members : {A : Type 0} (P : A → Type 0) (xs : List A) → ((x : A) → Contains xs x → P x) → All P xs
all_from_members P xs h = λ k d l. h (get_or xs k d) (Contains-get_or xs k d l)

pub flat_map_same : {A B : Type 0} (f g : A → List B) (xs : List A) → ((x : A) → Contains xs x → f x ≡ g x)
    → flat_map f xs ≡ flat_map g xs
flat_map_same f g [] h = refl
flat_map_same f g (x ∷ xs) h =
    let e = h x (zero, omega arith, refl) in
    let r = flat_map_same f g xs (λ y c. h y (contains-later x xs y c)) in
    λ i. e i ++ r i

pub filter_all : {A : Type 0} (p : A → Bool) (xs : List A) → ((x : A) → Contains xs x → p x ≡ true) → filter p xs ≡ xs
filter_all p [] h = refl
filter_all p (x ∷ xs) h =
    let r = filter_all p xs (λ y c. h y (contains-later x xs y c)) in
    cond-true (p x) (x ∷ filter p xs) (filter p xs) (h x (zero, omega arith, refl)) ∙ ap (λ l. x ∷ l) r

pub filter_same : {A : Type 0} (p q : A → Bool) (xs : List A) → ((x : A) → Contains xs x → p x ≡ q x) → filter p xs ≡ filter q xs
filter_same p q [] h = refl
filter_same p q (x ∷ xs) h =
    let e = h x (zero, omega arith, refl) in
    let r = filter_same p q xs (λ y c. h y (contains-later x xs y c)) in
    λ i. cond (e i) (x ∷ r i) (r i)

pub map_same : {A B : Type 0} (f g : A → B) (xs : List A) → ((x : A) → Contains xs x → f x ≡ g x) → map f xs ≡ map g xs
map_same f g [] h = refl
map_same f g (x ∷ xs) h =
    let e = h x (zero, omega arith, refl) in
    let r = map_same f g xs (λ y c. h y (contains-later x xs y c)) in
    λ i. e i ∷ r i

pub sum_none : {A : Type 0} (f : A → ℕ) (xs : List A) → ((x : A) → Contains xs x → f x ≡ 0) → sum_by f xs ≡ 0
sum_none f [] h = refl
sum_none f (x ∷ xs) h =
    let e = h x (zero, omega arith, refl) in
    let r = sum_none f xs (λ y c. h y (contains-later x xs y c)) in
    omega (arith, sum_by-cons f x xs, e, r)
