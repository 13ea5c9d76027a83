-- What look-ups in lists and in mapped lists answer.
use Rattle.std.proofs.Common.{◌≡◌, ℕ, suc, ◌+◌, Bool, true, false, cond, not, ◌||◌, List, [], ◌∷◌, ◌++◌, map, filter, ltb, refl, sym, ◌∙◌, ap, arith, Some, None}
use Rattle.std.specs.Prelude.{All, find, position, is_none, IsSome, Option, option_map, slice_get}
use Rattle.std.specs.List.{list_any, position_or_len}
use Rattle.std.proofs.lemmas.List.{length-map}
use Rattle.std.proofs.lemmas.List.Elements.{All-cons, All-filter, All-head, All-tail}
use Rattle.xet_base.specs.Lists.{first_some, firsts}

pub find-map : {A B : Type 0} (f : A → B) (p : B → Bool) (xs : List A) → find p (map f xs) ≡ option_map f (find (λ x. p (f x)) xs)
find-map f p [] = refl
find-map f p (x ∷ xs) = go (p (f x)) (find-map f p xs)
  where
    go : (b : Bool) → find p (map f xs) ≡ option_map f (find (λ y. p (f y)) xs) → cond b (Some (f x)) (find p (map f xs)) ≡ option_map f (cond b (Some x) (find (λ y. p (f y)) xs))
    go true e = refl
    go false e = e

pub position_or_len-map : {A B : Type 0} (f : A → B) (p : B → Bool) (xs : List A) → position_or_len p (map f xs) ≡ position_or_len (λ x. p (f x)) xs
position_or_len-map f p [] = refl
position_or_len-map f p (x ∷ xs) = ap (λ (n : ℕ). cond (not (p (f x))) (1 + n) 0) (position_or_len-map f p xs)

-- the first that passes stands at the first place that passes
pub find-place : {A : Type 0} (p : A → Bool) (xs : List A) → find p xs ≡ slice_get xs (position_or_len p xs)
find-place p [] = refl
find-place p (x ∷ xs) = go (p x) (find-place p xs)
  where
    go : (b : Bool) → find p xs ≡ slice_get xs (position_or_len p xs) → cond b (Some x) (find p xs) ≡ slice_get (x ∷ xs) (cond (not b) (1 + position_or_len p xs) 0)
    go true e = refl
    go false e =
        let n : suc (position_or_len p xs) ≡ 1 + position_or_len p xs = omega arith in
        e ∙ ap (λ (k : ℕ). slice_get (x ∷ xs) k) n

-- what is found passes
pub find_passes : {A : Type 0} (p : A → Bool) (xs : List A) (y : A) → find p xs ≡ Some y → p y ≡ true
find_passes p [] y h = cc
find_passes p (x ∷ xs) y h = go (p x) refl h (λ k. find_passes p xs y k)
  where
    go : (b : Bool) → p x ≡ b → cond b (Some x) (find p xs) ≡ Some y → (find p xs ≡ Some y → p y ≡ true) → p y ≡ true
    go true e k next = let same : x ≡ y = cc in ap p (sym same) ∙ e
    go false e k next = next k

pub find-append : {A : Type 0} (p : A → Bool) (xs ys : List A) → find p (xs ++ ys) ≡ first_some (find p xs ∷ find p ys ∷ [])
find-append p [] ys = go (find p ys)
  where
    go : {A : Type 0} (o : Option A) → o ≡ first_some (o ∷ [])
    go None = refl
    go (Some x) = refl
find-append p (x ∷ xs) ys = go (p x) (find-append p xs ys)
  where
    go : (b : Bool) → find p (xs ++ ys) ≡ first_some (find p xs ∷ find p ys ∷ []) → cond b (Some x) (find p (xs ++ ys)) ≡ first_some (cond b (Some x) (find p xs) ∷ find p ys ∷ [])
    go true e = refl
    go false e = e

pub position-map : {A B : Type 0} (f : A → B) (p : B → Bool) (xs : List A) → position p (map f xs) ≡ position (λ x. p (f x)) xs
position-map f p xs =
    let at = position_or_len-map f p xs in
    let long = length-map xs f in
    λ i. cond (ltb (at i) (long i)) (Some (at i)) None

pub any-map : {A B : Type 0} (f : A → B) (p : B → Bool) (xs : List A) → list_any p (map f xs) ≡ list_any (λ x. p (f x)) xs
any-map f p [] = refl
any-map f p (x ∷ xs) = ap (λ b. p (f x) || b) (any-map f p xs)

-- some element passes where one is found
pub any-find : {A : Type 0} (p : A → Bool) (xs : List A) → list_any p xs ≡ not (is_none (find p xs))
any-find p [] = refl
any-find p (x ∷ xs) = go (p x) (any-find p xs)
  where
    go : (b : Bool) → list_any p xs ≡ not (is_none (find p xs)) → (b || list_any p xs) ≡ not (is_none (cond b (Some x) (find p xs)))
    go true e = refl
    go false e = e

pub some_not_none : {A : Type 0} (o : Option A) → IsSome o → is_none o ≡ false
some_not_none None h = cc
some_not_none (Some x) h = refl

-- what holds of all elements holds of the first ones
pub firsts_all : {A : Type 0} (same : A → A → Bool) (P : A → Type 0) (xs : List A) → All P xs → All P (firsts same xs)
firsts_all same P [] h = h
firsts_all same P (x ∷ xs) h =
    All-cons P x (filter (λ y. not (same x y)) (firsts same xs)) (All-head P x xs h)
    (All-filter (λ y. not (same x y)) P (firsts same xs) (firsts_all same P xs (All-tail P x xs h)))
