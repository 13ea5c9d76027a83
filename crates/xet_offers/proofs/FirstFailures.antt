-- A walk that looks for the first of a list that fails a test.
use Rattle.std.proofs.Common.{◌≡◌, ℕ, ◌+◌, ◌<◌, ◌≤◌, Bool, true, false, cond, not, List, drop, get_or, length, sym, ◌∙◌, ap, subst, arith, Some, None, inr, refl}
use Rattle.std.specs.Prelude.{MatchOption, Option, position}
use Rattle.std.specs.List.{position_or_len}
use Rattle.std.proofs.lemmas.Bool.{le-ltb, lt-ltb}
use Rattle.std.proofs.lemmas.List.{drop_all, drop_more}
use Rattle.xet_error.specs.declared.error.Corruption.{Corruption}
use Rattle.xet_error.specs.declared.error.FileReconstructionError.TheVariants as error
use Rattle.xet_offers.specs.Refusals.{IsRefusal}

-- what stands from a place on, where the first element is this one
from_here : {A : Type 0} (p : A → Bool) (xs : List A) (i : ℕ) (d : A) (b : Bool) → i < length xs → p (get_or xs i d) ≡ b
    → position_or_len p (drop i xs) ≡ cond (not b) (1 + position_or_len p (drop (i + 1) xs)) 0
from_here {A} p xs i d b l e =
    ap (λ (ys : List A). position_or_len p ys) (drop_more xs i d l) ∙ ap (λ c. cond (not c) (1 + position_or_len p (drop (i + 1) xs)) 0) e

-- past an element that passes, the first that fails stands where it did
pub first_more : {A : Type 0} (p : A → Bool) (xs : List A) (i : ℕ) (d : A) → i < length xs → p (get_or xs i d) ≡ false → i + position_or_len p (drop i xs) ≡ position_or_len p xs
    → i + 1 + position_or_len p (drop (i + 1) xs) ≡ position_or_len p xs
first_more p xs i d l passes at = omega (arith, at, from_here p xs i d false l passes)

-- an element that fails is the first one
pub first_here : {A : Type 0} (p : A → Bool) (xs : List A) (i : ℕ) (d : A) → i < length xs → p (get_or xs i d) ≡ true → i + position_or_len p (drop i xs) ≡ position_or_len p xs → position p xs ≡ Some i
first_here p xs i d l fails at =
    let is : position_or_len p xs ≡ i = omega (arith, at, from_here p xs i d true l fails) in
    let within : position_or_len p xs < length xs = omega (arith, is) in
    ap (λ b. cond b (Some (position_or_len p xs)) None) (lt-ltb (position_or_len p xs) (length xs) within) ∙ ap Some is

-- at the end none fails
pub first_never : {A : Type 0} (p : A → Bool) (xs : List A) (i : ℕ) → length xs ≤ i → i + position_or_len p (drop i xs) ≡ position_or_len p xs → position p xs ≡ None
first_never {A} p xs i l at =
    let empty : position_or_len p (drop i xs) ≡ 0 = ap (λ (ys : List A). position_or_len p ys) (drop_all i xs l) in
    let past : length xs ≤ position_or_len p xs = omega (arith, at, empty) in
    ap (λ b. cond b (Some (position_or_len p xs)) None) (le-ltb (position_or_len p xs) (length xs) past)

-- a call that answers the test that failed refuses as it must
pub refuses : (failed : Option Corruption) (k : Corruption) → failed ≡ Some k → IsRefusal failed (error.CorruptedReconstruction k)
refuses failed k e = inr (subst (λ (o : Option Corruption). MatchOption o ⊥ (λ j. error.CorruptedReconstruction k ≡ error.CorruptedReconstruction j)) (sym e) refl)
