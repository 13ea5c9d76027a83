-- The place of a xorb among others.
use Rattle.std.proofs.Common.{◌≡◌, ℕ, zero, suc, ◌+◌, ◌<◌, Bool, true, false, cond, not, List, [], ◌∷◌, length, map, get_or, take, refl, sym, ◌∙◌, ap, arith, Option, Some, None, AllPairs, All, lt-ltb, le-ltb, eqb}
use Rattle.std.specs.Prelude.{find, position, nat_lt, slice_get}
use Rattle.std.specs.List.{list_any, position_or_len, prefix_len}
use Rattle.std.proofs.lemmas.Bool.{false_from_ne_true, true≢false}
use Rattle.std.proofs.lemmas.List.{get_or_default, get_or-map, get_or-take, length-map, length-take-le}
use Rattle.std.proofs.lemmas.List.Folds.{find_at, list_any_none}
use Rattle.std.proofs.lemmas.Option.{get_or_from_slice_get, slice_get_within}
use Rattle.xet_base.specs.declared.merklehash.MerkleHash.{MerkleHash}
use Rattle.xet_base.specs.declared.mdb_shard.Xorb.{Xorb}
use Rattle.xet_base.specs.Hashes.{hash_eq}
use Rattle.xet_base.proofs.CallerLemmas.{hash_eq-true, eq-hash_eq, place_none}
use Rattle.xet_compact.proofs.Members.{all_from_members}

prefix_len-map : {A B : Type 0} (p : B → Bool) (f : A → B) (xs : List A) → prefix_len p (map f xs) ≡ prefix_len (λ x. p (f x)) xs
prefix_len-map p f [] = refl
prefix_len-map p f (x ∷ xs) = ap (λ (n : ℕ). cond (p (f x)) (1 + n) 0) (prefix_len-map p f xs)

-- a xorb's place among the hashes, which is its place among the xorbs
pub record PlaceOf (xs : List Xorb) (h : MerkleHash) (x : Xorb) : Type 0 where
  pub place : ℕ
  pub found : position (λ y. hash_eq y h) (map (λ (y : Xorb). y.hash) xs) ≡ Some place
  pub inside : place < length xs
  pub is : (d : Xorb) → get_or xs place d ≡ x

pub place_of : (xs : List Xorb) (h : MerkleHash) (x : Xorb) → find (λ (y : Xorb). hash_eq y.hash h) xs ≡ Some x → PlaceOf xs h x
place_of xs h x e =
    let p = λ (y : Xorb). hash_eq y.hash h in
    let i = position_or_len p xs in
    let at : slice_get xs i ≡ Some x = sym (find_at p xs) ∙ e in
    let within = slice_get_within xs i x at in
    let same : position_or_len (λ y. hash_eq y h) (map (λ (y : Xorb). y.hash) xs) ≡ i = prefix_len-map (λ y. not
    (hash_eq y h)) (λ (y : Xorb). y.hash) xs in
    let long = length-map xs (λ (y : Xorb). y.hash) in
    record {
      place = i;
      found = ap (λ (n : ℕ). cond (nat_lt n (length (map (λ (y : Xorb). y.hash) xs))) (Some n) None) same
          ∙ ap (λ (b : Bool). cond b (Some i) None) (lt-ltb i (length (map (λ (y : Xorb). y.hash) xs)) (omega (
            arith,
            within,
            long,
          )));
      inside = within;
      is = λ d. get_or_from_slice_get xs i x d at;
    }

-- hashes of xorbs that differ
pub hashes_apart : (xs : List Xorb) → AllPairs (λ (a b : Xorb). hash_eq a.hash b.hash ≡ false) xs
    → AllPairs (λ a b. hash_eq a b ≡ false) (map (λ (x : Xorb). x.hash) xs)
hashes_apart xs apart = λ i j d less within.
    let long = length-map xs (λ (x : Xorb). x.hash) in
    let x : Xorb = record { hash = d; chunks = [] } in
    let at_i = get_or-map (λ (y : Xorb). y.hash) xs i x d (omega (arith, less, within, long)) in
    let at_j = get_or-map (λ (y : Xorb). y.hash) xs j x d (omega (arith, within, long)) in
    ap (λ (h : MerkleHash). hash_eq h (get_or (map (λ (y : Xorb). y.hash) xs) j d)) at_i
    ∙ ap (λ (h : MerkleHash). hash_eq (get_or xs i x).hash h) at_j
    ∙ apart i j x less (omega (arith, within, long))

-- a xorb's hash is not among those before it
pub hash_absent : (xs : List Xorb) (i : ℕ) (x : Xorb) → AllPairs (λ (a b : Xorb). hash_eq a.hash b.hash ≡ false) xs
    → i < length xs → x ≡ get_or xs i x → position (λ y. hash_eq y x.hash) (map (λ (y : Xorb). y.hash) (take i xs)) ≡ None
hash_absent xs i x apart within at =
    let hs = map (λ (y : Xorb). y.hash) (take i xs) in
    let long = length-map (take i xs) (λ (y : Xorb). y.hash) in
    let short = length-take-le i xs (omega arith) in
    let each : All (λ (y : MerkleHash). hash_eq y x.hash ≡ false) hs = λ k d l.
    let e : Xorb = record { hash = d; chunks = [] } in
    let before : k < i = omega (arith, l, long, short) in
    let at_k = get_or-map (λ (y : Xorb). y.hash) (take i xs) k e d (omega (arith, l, long)) in
    let at_xs = get_or-take i xs k e before in
    let same : get_or xs i e ≡ x = get_or_default xs i e x within ∙ sym at in
    ap (λ (h : MerkleHash). hash_eq h x.hash) (at_k ∙ ap (λ (y : Xorb). y.hash) at_xs)
    ∙ sym (ap (λ (y : Xorb). hash_eq (get_or xs k e).hash y.hash) same) ∙ apart k i e before within in
    let none = place_none (λ y. hash_eq y x.hash) hs (list_any_none (λ y. hash_eq y x.hash) hs each) in
    ap (λ (b : Bool). cond b (Some (position_or_len (λ y. hash_eq y x.hash) hs)) None) (le-ltb (position_or_len (λ y.
    hash_eq y x.hash) hs) (length hs) (omega (arith, none)))
