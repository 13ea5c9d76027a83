-- Walks over terms that keep how far the terms of each xorb reach.
use Rattle.std.proofs.Common.{◌≡◌, ℕ, zero, suc, ◌+◌, ◌<◌, ◌≤◌, max, Bool, true, false, cond, ◌||◌, ◌&&◌, List, [], ◌∷◌, ◌++◌, length, map, get_or, set, take, replicate, refl, sym, ◌∙◌, ap, subst, arith, ⊎_elim, ◌⊎◌, Option, Some, None, AllPairs, All, Contains, ltb, lt-ltb, le-ltb, fold}
use Rattle.std.specs.Prelude.{nat_le, nat_lt, position, slice_index}
use Rattle.std.specs.List.{list_any}
use Rattle.std.proofs.lemmas.Bool.{cases_eq, cases_lt, cases_order, false_from_ne_true, le-leb, lt-leb, true≢false, false≢true}
use Rattle.std.proofs.lemmas.List.{get_or_default, get_or-map, get_or-set_other, get_or-set_same, length-map, length-replicate, length-set, take-replicate, take-set-le}
use Rattle.std.proofs.lemmas.List.Folds.{list_any-append}
use Rattle.std.proofs.lemmas.List.Quantifiers.{position-Some}
use Rattle.std.proofs.lemmas.List.Sums.{fold_more}
use Rattle.xet_base.specs.declared.merklehash.MerkleHash.{MerkleHash}
use Rattle.xet_base.specs.declared.stored.StoredTerm.{StoredTerm}
use Rattle.xet_base.specs.Hashes.{hash_eq}
use Rattle.xet_base.proofs.CallerLemmas.{hash_eq-true, eq-hash_eq}
use Rattle.xet_held.specs.Held.{covers, greatest, is_reached}
use Rattle.xet_held.specs.Reaches.{Extends, IsWithin}

-- ---- tests

or_false : (b : Bool) → b ≡ (b || false)
or_false true = refl
or_false false = refl

or_assoc : (a b c : Bool) → ((a || b) || c) ≡ (a || (b || c))
or_assoc true b c = refl
or_assoc false b c = refl

lt_max : (k a b : ℕ) → ltb k (max a b) ≡ (ltb k a || ltb k b)
lt_max k a b =
    ⊎_elim
    (λ (x : k < a). lt-ltb k (max a b) (omega (arith, x)) ∙ sym (ap (λ (c : Bool). c || ltb k b) (lt-ltb k a x)))
    (λ (x : a ≤ k). ⊎_elim
    (λ (y : k < b). lt-ltb k (max a b) (omega (arith, y)) ∙ sym (ap (λ (c : Bool). c || ltb k b) (le-ltb k a x)
    ∙ lt-ltb k b y))
    (λ (y : b ≤ k). le-ltb k (max a b) (omega (arith, x, y)) ∙ sym (ap (λ (c : Bool). c || ltb k b) (le-ltb k a x)
    ∙ le-ltb k b y))
    (cases_lt k b))
    (cases_lt k a)

-- ---- the greatest of a list

pub greatest_more : (ns : List ℕ) (i : ℕ) → i < length ns
    → greatest (take (i + 1) ns) ≡ max (greatest (take i ns)) (get_or ns i 0)
greatest_more ns i h = fold_more (λ (a n : ℕ). max a n) 0 ns i 0 h

from_max : (b t : ℕ) (ys : List ℕ) → fold (λ (a n : ℕ). max a n) (max b t) ys ≡ max (fold (λ (a n : ℕ). max a n) b ys) t
from_max b t [] = refl
from_max b t (y ∷ ys) =
    let e : max (max b t) y ≡ max (max b y) t = omega arith in
    ap (λ (m : ℕ). fold (λ (a n : ℕ). max a n) m ys) e ∙ from_max (max b y) t ys

greatest_set : (a : ℕ) (v : List ℕ) (i m t : ℕ) → i < m → i < length v
    → fold (λ (a n : ℕ). max a n) a (take m (set v i (max (get_or v i 0) t))) ≡ max (fold (λ (a n : ℕ). max a n) a (take m v)) t
greatest_set a [] i m t h l = absurd (omega (arith, l))
greatest_set a (x ∷ xs) i zero t h l = absurd (omega (arith, h))
greatest_set a (x ∷ xs) zero (suc m) t h l =
    let e : max a (max x t) ≡ max (max a x) t = omega arith in
    ap (λ (b : ℕ). fold (λ (a n : ℕ). max a n) b (take m xs)) e ∙ from_max (max a x) t (take m xs)
greatest_set a (x ∷ xs) (suc i) (suc m) t h l = greatest_set (max a x) xs i m t (omega (arith, h)) (omega (arith, l))

-- one term more
pub reach_more : (v : List ℕ) (from to k : ℕ) → from < length v
    → is_reached (set v from (max (slice_index v from) to)) k ≡ (is_reached v k || (nat_le from k && nat_lt k to))
reach_more v from to k within =
    ⊎_elim
    (λ (before : k < from).
    ap (λ (l : List ℕ). nat_lt k (greatest l)) (take-set-le (k + 1) v from (max (slice_index v from) to)
    (omega (arith, before)))
    ∙ or_false (is_reached v k)
    ∙ sym (ap (λ (b : Bool). is_reached v k || (b && nat_lt k to)) (lt-leb from k before)))
    (λ (behind : from ≤ k).
    ap (λ (n : ℕ). nat_lt k n) (greatest_set 0 v from (k + 1) to (omega (arith, behind)) within)
    ∙ lt_max k (greatest (take (k + 1) v)) to
    ∙ sym (ap (λ (b : Bool). is_reached v k || (b && nat_lt k to)) (le-leb from k behind)))
    (cases_lt k from)

-- ---- all xorbs

-- another one's hash
apart_hash : (hs : List MerkleHash) (i place : ℕ) (d h : MerkleHash) → AllPairs (λ a b. hash_eq a b ≡ false) hs
    → i < length hs → place < length hs → get_or hs place d ≡ h → (i ≡ place → ⊥) → hash_eq h (get_or hs i d) ≡ false
apart_hash hs i place d h apart il pl at other =
    false_from_ne_true (hash_eq h (get_or hs i d)) (λ e.
    let same : get_or hs place d ≡ get_or hs i d = at ∙ hash_eq-true h (get_or hs i d) e in
    ⊎_elim
    (λ (x : i ≡ place). other x)
    (λ (x : (i < place) ⊎ (place < i)). ⊎_elim
    (λ (y : i < place). true≢false (sym (eq-hash_eq (get_or hs i d) (get_or hs place d) (sym same))
    ∙ apart i place d y pl))
    (λ (y : place < i). true≢false (sym (eq-hash_eq (get_or hs place d) (get_or hs i d) same)
    ∙ apart place i d y il))
    x)
    (cases_order i place))

pub extends_one : (hs : List MerkleHash) (rs : List (List ℕ)) (t : StoredTerm) (place : ℕ) (old : List ℕ)
    → AllPairs (λ a b. hash_eq a b ≡ false) hs → position (λ y. hash_eq y t.xorb) hs ≡ Some place → place < length rs
    → old ≡ get_or rs place old → t.from < length old
    → Extends hs rs (set rs place (set old t.from (max (slice_index old t.from) t.to))) (t ∷ [])
extends_one hs rs t place old apart found inside at some =
    let new = set old t.from (max (slice_index old t.from) t.to) in
    let long_new = length-set old t.from (max (slice_index old t.from) t.to) in
    let is = λ (d : MerkleHash). position-Some (λ y. hash_eq y t.xorb) hs place d found in
    let at_place = λ (i : ℕ) (e : i ≡ place). ap (λ (j : ℕ). get_or (set rs place new) j []) e ∙ get_or-set_same rs place
    new [] inside in
    let old_place = λ (i : ℕ) (e : i ≡ place). ap (λ (j : ℕ). get_or rs j []) e ∙ get_or_default rs place [] old inside
    ∙ sym at in
    record {
      count = length-set rs place new;
      long = λ i. ⊎_elim
          (λ (e : i ≡ place). ap length (at_place i e) ∙ long_new ∙ sym (ap length (old_place i e)))
          (λ (n : i ≡ place → ⊥). ap length (get_or-set_other rs place i new [] n))
          (cases_eq i place);
      held = λ i k d il ir kl. ⊎_elim
          (λ (e : i ≡ place).
          let hash : hash_eq t.xorb (get_or hs i d) ≡ true = eq-hash_eq t.xorb (get_or hs i d) (sym (ap (λ (j : ℕ).
          get_or hs j d) e ∙ hash_eq-true (get_or hs place d) t.xorb (is d).1)) in
          ap (λ (l : List ℕ). is_reached l k) (at_place i e)
          ∙ reach_more old t.from t.to k some
          ∙ ap (λ (b : Bool). is_reached old k || b) (or_false (nat_le t.from k && nat_lt k t.to))
          ∙ sym (ap (λ (b : Bool). is_reached (get_or rs i []) k || ((b && (nat_le t.from k && nat_lt k t.to)) || false)) hash
          ∙ ap (λ (l : List ℕ). is_reached l k || ((nat_le t.from k && nat_lt k t.to) || false)) (old_place i e)))
          (λ (n : i ≡ place → ⊥).
          let hash = apart_hash hs i place d t.xorb apart il (is d).0 (hash_eq-true (get_or hs place d) t.xorb (is d).1) n in
          ap (λ (l : List ℕ). is_reached l k) (get_or-set_other rs place i new [] n)
          ∙ or_false (is_reached (get_or rs i []) k)
          ∙ sym (ap (λ (b : Bool). is_reached (get_or rs i []) k || ((b && (nat_le t.from k && nat_lt k t.to)) || false)) hash))
          (cases_eq i place);
    }

pub extends_none : (hs : List MerkleHash) (rs : List (List ℕ)) → Extends hs rs rs []
extends_none hs rs = record {
  count = refl;
  long = λ i. refl;
  held = λ i k d il ir kl. or_false (is_reached (get_or rs i []) k);
}

pub extends_more : (hs : List MerkleHash) (a b c : List (List ℕ)) (ts us : List StoredTerm) → Extends hs a b ts
    → Extends hs b c us → Extends hs a c (ts ++ us)
extends_more hs a b c ts us x y = record {
  count = y.count ∙ x.count;
  long = λ i. y.long i ∙ x.long i;
  held = λ i k d il ir kl.
      let count = x.count in
      let long = x.long i in
      y.held i k d il (omega (arith, ir, count)) (omega (arith, kl, long))
      ∙ ap (λ (r : Bool). r || list_any (covers (get_or hs i d) k) us) (x.held i k d il ir kl)
      ∙ or_assoc (is_reached (get_or a i []) k) (list_any (covers (get_or hs i d) k) ts) (list_any (covers (get_or hs i d) k) us)
      ∙ sym (ap (λ (r : Bool). is_reached (get_or a i []) k || r) (list_any-append (covers (get_or hs i d) k) ts us));
}

-- a term that had its place keeps it
pub within_after : (hs : List MerkleHash) (a b : List (List ℕ)) (ts : List StoredTerm) (t : StoredTerm)
    → Extends hs a b ts → IsWithin hs a t → IsWithin hs b t
within_after hs a b ts t x w =
    let count = x.count in
    let long = x.long w.place in
    let inside = w.inside in
    let some = w.some in
    record {
      place = w.place;
      found = w.found;
      inside = omega (arith, count, inside);
      some = omega (arith, long, some);
    }
