-- The place of a xorb among the entries, and what stands there.
use Rattle.std.proofs.Common.{◌≡◌, ℕ, Bool, true, false, cond, ◌||◌, List, [], ◌∷◌, ◌++◌, refl, ◌∙◌, ap, ◌<◌, zero, suc, length, get_or, arith}
use Rattle.std.specs.Prelude.{Some, None, find, position, slice_get}
use Rattle.std.specs.List.{list_any, position_or_len}
use Rattle.std.proofs.lemmas.Bool.{lt-ltb}
use Rattle.std.proofs.lemmas.List.Folds.{find_at}
use Rattle.xet_base.proofs.CallerLemmas.{position_some, position_no, place_within}

pub get_some : {A : Type 0} (xs : List A) (i : ℕ) (d : A) → i < length xs → slice_get xs i ≡ Some (get_or xs i d)
get_some [] i d h = absurd (omega arith)
get_some (x ∷ xs) zero d h = refl
get_some (x ∷ xs) (suc i) d h = get_some xs i d (omega arith)

-- what was found stands at its place
pub find_here : {A : Type 0} (p : A → Bool) (xs : List A) (i : ℕ) (d : A) → position p xs ≡ Some i → (find p xs ≡ Some (get_or xs i d)) × (i < length xs) × (position_or_len p xs ≡ i)
find_here p xs i d h =
    let q = position_some p xs i h in
    let lt = place_within p xs q.0 in
    let lt' : i < length xs = omega (arith, lt, q.1) in
    (find_at p xs ∙ ap (λ (n : ℕ). slice_get xs n) q.1 ∙ get_some xs i d lt', lt', q.1)

find_none : {A : Type 0} (p : A → Bool) (xs : List A) → list_any p xs ≡ false → find p xs ≡ None
find_none p [] h = refl
find_none p (x ∷ xs) h = go (p x) h (λ k. find_none p xs k)
  where
    go : (b : Bool) → (b || list_any p xs) ≡ false → (list_any p xs ≡ false → find p xs ≡ None) → cond b (Some x) (find p xs) ≡ None
    go true k next = absurd (cc)
    go false k next = next k

pub find_nothing : {A : Type 0} (p : A → Bool) (xs : List A) → position p xs ≡ None → find p xs ≡ None
find_nothing p xs h = find_none p xs (position_no p xs h)

-- one more element that passes has its place at the end
pub position_push : {A : Type 0} (p : A → Bool) (xs : List A) (x : A) → position p xs ≡ None → p x ≡ true → position p (xs ++ x ∷ []) ≡ Some (length xs)
position_push p xs x h e = here (xs ++ x ∷ []) (any xs) (at xs (position_no p xs h))
  where
    any : (ys : List _) → list_any p (ys ++ x ∷ []) ≡ true
    any [] = ap (λ b. b || false) e
    any (y ∷ ys) = ap (λ b. p y || b) (any ys) ∙ or_true (p y)
      where
        or_true : (b : Bool) → (b || true) ≡ true
        or_true true = refl
        or_true false = refl

    at : (ys : List _) → list_any p ys ≡ false → position_or_len p (ys ++ x ∷ []) ≡ length ys
    at [] k = rw e
    at (y ∷ ys) k = go (p y) refl k (λ m. at ys m)
      where
        go : (b : Bool) → p y ≡ b → (b || list_any p ys) ≡ false → (list_any p ys ≡ false → position_or_len p (ys ++ x ∷ []) ≡ length ys) → position_or_len p (y ∷ (ys ++ x ∷ [])) ≡ length (y ∷ ys)
        go true q m next = absurd (cc)
        go false q m next = let n = next m in rw q (omega (arith, n))

    here : (ys : List _) → list_any p ys ≡ true → position_or_len p ys ≡ length xs → position p ys ≡ Some (length xs)
    here ys k l = rw (lt-ltb (position_or_len p ys) (length ys) (place_within p ys k)) (ap Some l)
