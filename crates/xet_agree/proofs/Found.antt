-- What a look-up by hash finds.
use Rattle.std.proofs.Common.{◌≡◌, ℕ, zero, suc, ◌<◌, Bool, true, false, cond, List, [], ◌∷◌, length, get_or, refl, sym, ◌∙◌, ap, arith, subst, Some, All, AllPairs}
use Rattle.std.specs.Prelude.{IsFalse, find, slice_get}
use Rattle.std.specs.List.{position_or_len}
use Rattle.std.proofs.lemmas.List.Folds.{find_at}
use Rattle.std.proofs.lemmas.Option.{slice_get_within, get_or_from_slice_get}
use Rattle.xet_base.specs.declared.merklehash.MerkleHash.{MerkleHash}
use Rattle.xet_base.specs.Hashes.{hash_eq}
use Rattle.xet_base.proofs.CallerLemmas.{hash_eq-own}

module _ {A : Type 0} (p : A → Bool) where
  -- what is found is one of the elements, and passes
  pub found_passes : (xs : List A) (x : A) → find p xs ≡ Some x → p x ≡ true
  found_passes [] x e = absurd cc
  found_passes (y ∷ ys) x e = go (p y) refl e (λ f. found_passes ys x f)
    where
      go : (b : Bool) → p y ≡ b → cond b (Some y) (find p ys) ≡ Some x → (find p ys ≡ Some x → p x ≡ true) → p x ≡ true
      go true h f next = let same : y ≡ x = cc in ap p (sym same) ∙ h
      go false h f next = next f

  -- so what holds of all holds of it
  pub found_all : (P : A → Type 0) (xs : List A) (x : A) → find p xs ≡ Some x → All P xs → P x
  found_all P xs x e all =
      let at : slice_get xs (position_or_len p xs) ≡ Some x = sym (find_at p xs) ∙ e in
      subst P (get_or_from_slice_get xs (position_or_len p xs) x x at)
      (all (position_or_len p xs) x (slice_get_within xs (position_or_len p xs) x at))

  -- the first element that passes, by the place before which none does
  found_first : (xs : List A) (i : ℕ) (d : A) → i < length xs → p (get_or xs i d) ≡ true
      → ((j : ℕ) → j < i → p (get_or xs j d) ≡ false) → find p xs ≡ Some (get_or xs i d)
  found_first [] i d l h f = absurd (omega arith)
  found_first (y ∷ xs) zero d l h f = ap (λ (b : Bool). cond b (Some y) (find p xs)) h
  found_first (y ∷ xs) (suc i) d l h f =
      ap (λ (b : Bool). cond b (Some y) (find p xs)) (f 0 (omega arith))
      ∙ found_first xs i d (omega arith) h (λ j k. f (suc j) (omega arith))

-- of elements whose hashes differ each is found by its hash
pub found_own : {A : Type 0} (key : A → MerkleHash) (xs : List A)
    → AllPairs (λ (a b : A). IsFalse (hash_eq (key a) (key b))) xs → (i : ℕ) (d : A) → i < length xs
    → find (λ (y : A). hash_eq (key y) (key (get_or xs i d))) xs ≡ Some (get_or xs i d)
found_own {A} key xs differ i d l =
    found_first (λ (y : A). hash_eq (key y) (key (get_or xs i d))) xs i d l (hash_eq-own (key (get_or xs i d)))
    (λ j before. differ j i d before l)
