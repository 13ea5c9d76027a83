-- A list that is found by keys, over the list of its keys.
use Rattle.std.proofs.Common.{◌≡◌, ℕ, Bool, cond, List, [], ◌∷◌, refl, ◌∙◌, ap, ◌+◌}
use Rattle.std.specs.Prelude.{Some, None, map, not, position, nat_lt, nat_eq}
use Rattle.std.specs.List.{prefix_len, position_or_len}
use Rattle.std.specs.Ordering.{is_eq, nat_cmp}
use Rattle.std.specs.Cmp.{unsigned_tied}
use Rattle.std.proofs.lemmas.List.{length-map}

prefix_len-map : {A B : Type 0} (f : A → B) (p : B → Bool) (xs : List A) → prefix_len p (map f xs) ≡ prefix_len (λ x. p (f x)) xs
prefix_len-map f p [] = refl
prefix_len-map f p (x ∷ xs) = ap (λ (n : ℕ). cond (p (f x)) (1 + n) 0) (prefix_len-map f p xs)

-- the place of a key is that of its element
pub position-map : {A B : Type 0} (f : A → B) (p : B → Bool) (xs : List A) → position p (map f xs) ≡ position (λ x. p (f x)) xs
position-map f p xs =
    let a : position_or_len p (map f xs) ≡ position_or_len (λ x. p (f x)) xs = prefix_len-map f (λ y. not (p y)) xs in
    let b = length-map xs f in
    λ i. cond (nat_lt (a i) (b i)) (Some (a i)) None

-- an index of keys answers the place in the list
pub indexed : {A B : Type 0} (f : A → B) (p : B → Bool) (xs : List A) (keys : List B) → keys ≡ map f xs → position p keys ≡ position (λ x. p (f x)) xs
indexed f p xs keys e = ap (λ (l : List _). position p l) e ∙ position-map f p xs

-- and so does one of numbers by their order
pub numbered : {A : Type 0} (f : A → ℕ) (n : ℕ) (xs : List A) (keys : List ℕ) → keys ≡ map f xs → position (λ y. is_eq (nat_cmp y n)) keys ≡ position (λ x. nat_eq (f x) n) xs
numbered f n xs keys e = (λ i. position (λ y. unsigned_tied y n i) keys) ∙ indexed f (λ y. nat_eq y n) xs keys e
