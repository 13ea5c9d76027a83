-- What a search finds.
use Rattle.std.proofs.Common.{◌≡◌, ℕ, zero, suc, ◌<◌, Bool, true, false, cond, List, [], ◌∷◌, length, get_or, refl, sym, ◌∙◌, ap, arith}
use Rattle.std.specs.Prelude.{AllPairs, IsFalse, Some, None, find, position, slice_get}
use Rattle.std.specs.List.{position_or_len, list_any}
use Rattle.std.proofs.lemmas.Bool.{false≢true, lt-ltb}
use Rattle.std.proofs.lemmas.List.Folds.{find_at, list_any_at}
use Rattle.std.proofs.lemmas.List.Sums.{position_or_len_is}
use Rattle.std.proofs.lemmas.Option.{slice_get_within, get_or_from_slice_get}
use Rattle.xet_base.specs.Hashes.{hash_eq}
use Rattle.xet_base.specs.declared.mdb_shard.Xorb.{Xorb}
use Rattle.xet_base.specs.declared.merklehash.MerkleHash.{MerkleHash}
use Rattle.xet_base.proofs.CallerLemmas.{find_some, hash_eq-true}

-- where a search finds nothing, nothing passes
pub find_none : {A : Type 0} (p : A → Bool) (xs : List A) → find p xs ≡ None → list_any p xs ≡ false
find_none p xs h = go (list_any p xs) refl
  where
    go : (b : Bool) → list_any p xs ≡ b → list_any p xs ≡ false
    go false e = e
    go true e = let found = (find_some p xs e).1 in cc

pub find_none-at : {A : Type 0} (p : A → Bool) (xs : List A) → find p xs ≡ None → (k : ℕ) (d : A) → k < length xs
    → p (get_or xs k d) ≡ false
find_none-at p xs h k d within = go (p (get_or xs k d)) refl
  where
    go : (b : Bool) → p (get_or xs k d) ≡ b → p (get_or xs k d) ≡ false
    go false e = e
    go true e = absurd (false≢true (sym (find_none p xs h) ∙ list_any_at p xs k d within e))

-- what is found is one of the elements
pub find_within : {A : Type 0} (p : A → Bool) (xs : List A) (x : A) → find p xs ≡ Some x
    → (k : ℕ) × (k < length xs) × (get_or xs k x ≡ x)
find_within p xs x h =
    let e : slice_get xs (position_or_len p xs) ≡ Some x = sym (find_at p xs) ∙ h in (
      position_or_len p xs,
      slice_get_within xs (position_or_len p xs) x e,
      get_or_from_slice_get xs (position_or_len p xs) x x e,
    )

-- the first element that passes, by the place before which none does
find_first : {A : Type 0} (p : A → Bool) (xs : List A) (i : ℕ) (x : A) → i < length xs → get_or xs i x ≡ x
    → p x ≡ true → ((j : ℕ) → j < i → p (get_or xs j x) ≡ false) → find p xs ≡ Some x
find_first p [] i x l e h f = absurd (omega arith)
find_first p (y ∷ xs) zero x l e h f = ap (λ (b : Bool). cond b (Some y) (find p xs)) (ap p e ∙ h) ∙ ap Some e
find_first p (y ∷ xs) (suc i) x l e h f =
    ap (λ (b : Bool). cond b (Some y) (find p xs)) (f 0 (omega arith))
    ∙ find_first p xs i x (omega arith) e h (λ j k. f (suc j) (omega arith))

-- a xorb with this hash, at whatever place, is the one that a search finds, where the hashes differ
pub find_near : (xs : List Xorb) (i : ℕ) (x : Xorb) (h : MerkleHash)
    → AllPairs (λ a b. IsFalse (hash_eq a.hash b.hash)) xs → slice_get xs i ≡ Some x → hash_eq x.hash h ≡ true
    → find (λ y. hash_eq y.hash h) xs ≡ Some x
find_near xs i x h differ at here =
    let within = slice_get_within xs i x at in
    let is = get_or_from_slice_get xs i x x at in
    let same : x.hash ≡ h = hash_eq-true x.hash h here in
    find_first (λ y. hash_eq y.hash h) xs i x within is here (λ j before.
    ap (λ (k : MerkleHash). hash_eq (get_or xs j x).hash k) (sym same)
    ∙ ap (λ (y : Xorb). hash_eq (get_or xs j x).hash y.hash) (sym is)
    ∙ differ j i x before within)

-- where a hash stands among different ones, there is its place
pub position_near : (hs : List MerkleHash) (i : ℕ) (x h : MerkleHash) → AllPairs (λ a b. hash_eq a b ≡ false) hs
    → slice_get hs i ≡ Some x → hash_eq x h ≡ true → position (λ y. hash_eq y h) hs ≡ Some i
position_near hs i x h differ at here =
    let p : MerkleHash → Bool = λ y. hash_eq y h in
    let within = slice_get_within hs i x at in
    let is : get_or hs i x ≡ x = get_or_from_slice_get hs i x x at in
    let same : x ≡ h = hash_eq-true x h here in
    let before : (k : ℕ) → k < i → p (get_or hs k x) ≡ false =
    λ k l. ap (λ (y : MerkleHash). hash_eq (get_or hs k x) y) (sym same)
    ∙ ap (λ (y : MerkleHash). hash_eq (get_or hs k x) y) (sym is) ∙ differ k i x l within in
    let place : position_or_len p hs ≡ i = position_or_len_is p hs i x (omega (arith, within)) before (λ l. ap p is ∙ here) in
    rw (lt-ltb (position_or_len p hs) (length hs) (omega (arith, place, within))) (ap Some place)
