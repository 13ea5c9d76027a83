-- A list that grows by what it lacks, where each element has a hash.
use Rattle.std.proofs.Common.{◌≡◌, Bool, true, false, cond, List, [], ◌∷◌, ◌++◌, refl, ◌∙◌, ap, subst, arith}
use Rattle.std.specs.Prelude.{Option, Some, None, All, find, is_some}
use Rattle.std.specs.List.{fold}
use Rattle.std.specs.Option.{option_or}
use Rattle.std.proofs.lemmas.Bool.{false≢true}
use Rattle.std.proofs.lemmas.List.{get_or_append_left, length-append}
use Rattle.std.proofs.lemmas.List.Elements.{All-contains, Contains-push}
use Rattle.std.proofs.lemmas.List.Folds.{find-append}
use Rattle.xet_base.specs.declared.merklehash.MerkleHash.{MerkleHash}
use Rattle.xet_base.specs.Hashes.{hash_eq}
use Rattle.xet_base.proofs.CallerLemmas.{hash_eq-true}

-- ---- what is found in it

module _ {A : Type 0} (key : A → MerkleHash) where
  -- the first with this hash
  abbrev pub with_key : MerkleHash → List A → Option A
  with_key h xs = find (λ y. hash_eq (key y) h) xs

  -- the list, with one more where none has its hash
  abbrev pub grown : List A → A → List A
  grown xs x = cond (is_some (with_key (key x) xs)) xs (xs ++ x ∷ [])

  -- what has the hash of another is found by it
  same_key : (a h : MerkleHash) (xs : List A) → is_some (with_key a xs) ≡ true → hash_eq a h ≡ true
      → is_some (with_key h xs) ≡ true
  same_key a h xs k e =
      let P : MerkleHash → Type 0 = λ z. is_some (with_key z xs) ≡ true in subst P (hash_eq-true a h e) k

  found_or : (o : Option A) (b : Bool) (x : A) → (b ≡ true → is_some o ≡ true) → o ≡ option_or o (cond b (Some x) None)
  found_or (Some y) b x k = refl
  found_or None true x k = absurd (false≢true (k refl))
  found_or None false x k = refl

  pub grown-finds : (xs : List A) (x : A) (h : MerkleHash)
      → with_key h (grown xs x) ≡ option_or (with_key h xs) (cond (hash_eq (key x) h) (Some x) None)
  grown-finds xs x h = go (is_some (with_key (key x) xs)) refl
    where
      go : (b : Bool) → is_some (with_key (key x) xs) ≡ b
          → with_key h (cond b xs (xs ++ x ∷ [])) ≡ option_or (with_key h xs) (cond (hash_eq (key x) h) (Some x) None)
      go true k = found_or (with_key h xs) (hash_eq (key x) h) x (λ e. same_key (key x) h xs k e)
      go false k = find-append (λ y. hash_eq (key y) h) xs (x ∷ [])

  or_added : (a : Option A) (b : Bool) (x : A) (r : Option A)
      → option_or (option_or a (cond b (Some x) None)) r ≡ option_or a (cond b (Some x) r)
  or_added (Some y) b x r = refl
  or_added None true x r = refl
  or_added None false x r = refl

  or_none : (a : Option A) → a ≡ option_or a None
  or_none (Some y) = refl
  or_none None = refl

  pub all-finds : (ys xs : List A) (h : MerkleHash)
      → with_key h (fold grown xs ys) ≡ option_or (with_key h xs) (with_key h ys)
  all-finds [] xs h = or_none (with_key h xs)
  all-finds (y ∷ ys) xs h =
      all-finds ys (grown xs y) h
      ∙ ap (λ (o : Option A). option_or o (with_key h ys)) (grown-finds xs y h)
      ∙ or_added (with_key h xs) (hash_eq (key y) h) y (with_key h ys)

-- ---- what all of it have

all-left : {A : Type 0} (P : A → Type 0) (xs ys : List A) → All P (xs ++ ys) → All P xs
all-left P xs ys all k d within =
    let e = length-append xs ys in
    subst P (get_or_append_left xs ys d k within) (all k d (omega (arith, within, e)))

module _ {A : Type 0} (key : A → MerkleHash) (P : A → Type 0) where
  all-grown : (xs : List A) (x : A) (b : Bool) → All P (cond b xs (xs ++ x ∷ [])) → All P xs
  all-grown xs x true all = all
  all-grown xs x false all = all-left P xs (x ∷ []) all

  -- it keeps what it had
  pub all-front : (ys xs : List A) → All P (fold (grown key) xs ys) → All P xs
  all-front [] xs all = all
  all-front (y ∷ ys) xs all = all-grown xs y (is_some (with_key key (key y) xs)) (all-front ys (grown key xs y) all)

  -- and has what was new
  pub all-new : (ys xs : List A) (x : A) → is_some (with_key key (key x) xs) ≡ false
      → All P (fold (grown key) (grown key xs x) ys) → P x
  all-new ys xs x new all =
      let Q : List A → Type 0 = λ zs. All P zs in
      let more : All P (xs ++ x ∷ []) =
      subst Q (ap (λ (b : Bool). cond b xs (xs ++ x ∷ [])) new) (all-front ys (grown key xs x) all) in
      All-contains P (xs ++ x ∷ []) x more (Contains-push xs x)
