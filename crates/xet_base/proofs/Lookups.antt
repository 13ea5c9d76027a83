-- What a look-up by a place finds.
use Rattle.std.proofs.Common.{◌≡◌, ℕ, ◌<◌, Bool, true, false, List, length, get_or, refl, sym, ◌∙◌, ap, arith}
use Rattle.std.specs.Prelude.{Option, Some, None, find, position, slice_get, option_and_then, is_none, is_some, IfSome}
use Rattle.std.specs.Option.{option_copied}
use Rattle.std.specs.List.{position_or_len, list_any}
use Rattle.std.proofs.lemmas.Bool.{lt-ltb, le-ltb}
use Rattle.std.proofs.lemmas.List.Folds.{find_at}
use Rattle.std.proofs.lemmas.Option.{get_or_from_slice_get, slice_get_past, slice_get-get_or, slice_get_within}
use borrow.Author.Tests.{ltb-true, ltb-false}
use denote.Ref.{Bor}
use lib.Dec.{ltb}
use Rattle.xet_base.proofs.Finds.{find_some, place_none, place_within, position_some}

-- the first that passes is the one at the first place that passes
pub find_is : {A : Type 0} (p : A → Bool) (xs : List A) → find p xs ≡ option_and_then (λ n. slice_get xs n) (position p xs)
find_is p xs = go (list_any p xs) refl
  where
    go : (b : Bool) → list_any p xs ≡ b → find p xs ≡ option_and_then (λ n. slice_get xs n) (position p xs)
    go true e = rw (lt-ltb (position_or_len p xs) (length xs) (place_within p xs e)) (find_at p xs)
    go false e =
        let n = place_none p xs e in
        rw (le-ltb (position_or_len p xs) (length xs) (omega (arith, n))) (find_at p xs ∙ slice_get_past xs (position_or_len p xs) (omega (arith, n)))

-- nothing is found exactly where no place is
pub find_none-position : {A : Type 0} (p : A → Bool) (xs : List A) → position p xs ≡ None → find p xs ≡ None
find_none-position p xs h = find_is p xs ∙ ap (λ o. option_and_then (λ n. slice_get xs n) o) h

pub position_none-find : {A : Type 0} (p : A → Bool) (xs : List A) → find p xs ≡ None → position p xs ≡ None
position_none-find p xs h = go (list_any p xs) refl
  where
    go : (b : Bool) → list_any p xs ≡ b → position p xs ≡ None
    go true e = let found = (find_some p xs e).1 in cc
    go false e = let n = place_none p xs e in rw (le-ltb (position_or_len p xs) (length xs) (omega (arith, n))) refl

-- so there is no place exactly where nothing is found
pub none_alike : {A : Type 0} (p : A → Bool) (xs : List A) → is_none (position p xs) ≡ is_none (find p xs)
none_alike {A} p xs = go (position p xs) (find p xs) refl refl
  where
    go : (o : Option ℕ) (f : Option A) → position p xs ≡ o → find p xs ≡ f → is_none (position p xs) ≡ is_none (find p xs)
    go None f h e = rw (h, find_none-position p xs h) refl
    go (Some i) None h e = let none = position_none-find p xs e in cc
    go (Some i) (Some x) h e = rw (h, e) refl

-- the place that is found is inside the list, and its element passes
pub position-found : {A : Type 0} (p : A → Bool) (xs : List A) (i : ℕ) → position p xs ≡ Some i → (i < length xs) × ((d : A) → p (get_or xs i d) ≡ true)
position-found p xs i h =
    let there = position_some p xs i h in
    let found = find_some p xs there.0 in
    let at : slice_get xs i ≡ Some found.0 = ap (λ (n : ℕ). slice_get xs n) (sym there.1) ∙ sym (find_at p xs) ∙ found.1 in
    (slice_get_within xs i found.0 at, λ d. ap p (get_or_from_slice_get xs i found.0 d at) ∙ found.2)

-- what `get` of a slice answers
pub looked_up : {A : Type 0} (o : Option (Bor A)) (xs : List A) (n : ℕ) → is_some o ≡ ltb n (length xs) → IfSome o (λ x. x.now ≡ get_or xs n x.now) → option_copied o ≡ slice_get xs n
looked_up None xs n e h = sym (slice_get_past xs n (ltb-false n (length xs) (sym e)))
looked_up (Some x) xs n e h = ap Some h ∙ sym (slice_get-get_or xs n x.now (ltb-true n (length xs) (sym e)))
