-- Which hashes a list has.
use Rattle.std.proofs.Common.{◌≡◌, ℕ, ◌+◌, ◌<◌, Bool, true, false, ◌||◌, List, [], ◌∷◌, ◌++◌, length, take, drop, refl, sym, ◌∙◌, ap, subst, get_or}
use Rattle.std.specs.Prelude.{Contains, Option, Some, None, is_some, position}
use Rattle.std.proofs.lemmas.Bool.{false≢true}
use Rattle.std.proofs.lemmas.List.{take-append-drop}
use Rattle.std.proofs.lemmas.List.Elements.{Contains-append_right}
use Rattle.std.proofs.lemmas.List.Folds.{list_any-append, list_any_at, list_any_more}
use Rattle.std.proofs.lemmas.Map.Views.{Contains-from_any}
use Rattle.xet_base.specs.Hashes.{hash_eq}
use Rattle.xet_base.specs.declared.merklehash.MerkleHash.{MerkleHash}
use Rattle.xet_base.proofs.CallerLemmas.{eq-hash_eq, hash_eq-true, position_no, position_some}
use Rattle.xet_upload_parts.specs.HashLists.{AreFound, has}

pub has-contains : (h : MerkleHash) (xs : List MerkleHash) → has h xs ≡ true → Contains xs h
has-contains h xs e = Contains-from_any {eq = λ a b. hash_eq b a} (λ x y q. sym (hash_eq-true y x q)) h xs e

pub contains-has : (h : MerkleHash) (xs : List MerkleHash) → Contains xs h → has h xs ≡ true
contains-has h xs c = list_any_at (λ y. hash_eq y h) xs c.0 h c.1 (eq-hash_eq (get_or xs c.0 h) h c.2)

-- the place of a hash is known exactly where it is among them
pub position-has : (h : MerkleHash) (xs : List MerkleHash) → is_some (position (λ y. hash_eq y h) xs) ≡ has h xs
position-has h xs = go (position (λ y. hash_eq y h) xs) refl
  where
    go : (o : Option ℕ) → position (λ y. hash_eq y h) xs ≡ o → is_some o ≡ has h xs
    go None e = sym (position_no (λ y. hash_eq y h) xs e)
    go (Some i) e = sym (position_some (λ y. hash_eq y h) xs i e).0

-- the map and the rest tell it of all
pub has-both : (h : MerkleHash) (ks xs : List MerkleHash) (i : ℕ) → has h ks ≡ has h (take i xs) → (has h ks || has h (drop i xs)) ≡ has h xs
has-both h ks xs i e =
    ap (λ (t : Bool). t || has h (drop i xs)) e ∙ sym (list_any-append (λ y. hash_eq y h) (take i xs) (drop i xs)) ∙ ap (has h) (take-append-drop i xs)

either : (a b c : Bool) → b ≡ (a || c) → (c ≡ true → a ≡ true) → b ≡ a
either true b c e f = e
either false b true e f = absurd (false≢true (f refl))
either false b false e f = e

-- one more is known
module _ (ks xs : List MerkleHash) (i : ℕ) (x d : MerkleHash) (low : i < length xs) (is : x ≡ get_or xs i d) (found : AreFound ks (take i xs)) where
  more : (h : MerkleHash) → has h (take (i + 1) xs) ≡ (has h (take i xs) || hash_eq x h)
  more h = list_any_more (λ y. hash_eq y h) xs i d low ∙ ap (λ (z : MerkleHash). has h (take i xs) || hash_eq z h) (sym is)

  -- it was among those of the map
  pub found-old : is_some (position (λ y. hash_eq y x) ks) ≡ true → (h : MerkleHash) → has h ks ≡ has h (take (i + 1) xs)
  found-old old h = found h ∙ sym (either (has h (take i xs)) (has h (take (i + 1) xs)) (hash_eq x h) (more h) (λ q. sym (found h) ∙ ap (λ (z : MerkleHash). has z ks) (sym (hash_eq-true x h q)) ∙ sym (position-has x ks) ∙ old))

  -- it was added
  pub found-new : (h : MerkleHash) → has h (ks ++ x ∷ []) ≡ has h (take (i + 1) xs)
  found-new h = list_any-append (λ y. hash_eq y h) ks (x ∷ []) ∙ ap (λ (t : Bool). t || has h (x ∷ [])) (found h) ∙ last (has h (take i xs)) (hash_eq x h) ∙ sym (more h)
    where
      last : (a b : Bool) → (a || (b || false)) ≡ (a || b)
      last true b = refl
      last false true = refl
      last false false = refl

-- ---- what the map and the rest tell of a hash

module _ (h : MerkleHash) (ks xs : List MerkleHash) (i : ℕ) (found : AreFound ks (take i xs)) where
  pub known-contains : has h ks ≡ true → Contains xs h
  known-contains e = has-contains h xs (sym (has-both h ks xs i (found h)) ∙ ap (λ (t : Bool). t || has h (drop i xs)) e)

  pub rest-contains : Contains (drop i xs) h → Contains xs h
  rest-contains c = subst (λ (l : List MerkleHash). Contains l h) (take-append-drop i xs) (Contains-append_right (take i xs) (drop i xs) h c)

  pub none-contains : has h ks ≡ false → (Contains (drop i xs) h → ⊥) → Contains xs h → ⊥
  none-contains e absent c = absent (has-contains h (drop i xs) (sym (ap (λ (t : Bool). t || has h (drop i xs)) e) ∙ has-both h ks xs i (found h) ∙ contains-has h xs c))

  -- what was looked up in the map
  pub looked : (o : Option ℕ) (t b : Bool) → o ≡ position (λ y. hash_eq y h) ks → t ≡ is_some o → t ≡ b → has h ks ≡ b
  looked o t b e s k = sym (position-has h ks) ∙ ap (λ (p : Option ℕ). is_some p) (sym e) ∙ sym s ∙ k
