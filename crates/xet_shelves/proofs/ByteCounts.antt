-- How many bytes the terms of a valid store have.
use Rattle.std.proofs.Common.{◌≡◌, ℕ, ◌+◌, ◌-◌, ◌^◌, ◌≤◌, Bool, true, false, cond, List, [], ◌∷◌, length, take, drop}
use Rattle.std.proofs.Common.{min, sym, ◌∙◌, ap, subst, arith}
use Rattle.std.specs.Prelude.{Option, Some, All, find, option_map, slice_range, unwrap_or}
use Rattle.std.specs.List.{concat}
use Rattle.std.proofs.lemmas.List.{length-append, take-append-drop}
use Rattle.std.proofs.lemmas.List.Elements.{All-head, All-tail}
use Rattle.std.proofs.lemmas.List.Folds.{concat-append}
use Rattle.std.proofs.lemmas.Option.{none-some, same_Some}
use Rattle.xet_base.specs.declared.mdb_shard.Xorb.{Xorb}
use Rattle.xet_base.specs.declared.stored.StoredTerm.{StoredTerm}
use Rattle.xet_base.specs.Hashes.{hash_eq}
use Rattle.xet_base.specs.Store.{IsValid, IsValidXorb, Store, xorb_of}
use Rattle.xet_store.specs.Refusals.{term_length}

-- what is found is one of all
found-one : {A : Type 0} (P : A → Type 0) (p : A → Bool) (xs : List A) (x : A) → All P xs → find p xs ≡ Some x → P x
found-one P p [] x all e = absurd (none-some x e)
found-one P p (y ∷ ys) x all e =
    go (p y) e (All-head P y ys all) (λ f. found-one P p ys x (All-tail P y ys all) f)
  where
    go : (b : Bool) → cond b (Some y) (find p ys) ≡ Some x → P y → (find p ys ≡ Some x → P x) → P x
    go true f here rest = subst P (same_Some y x f) here
    go false f here rest = rest f

-- a part of some chunks has at most as many bytes
parts-length : (n : ℕ) (cs : List (List ℕ))
    → length (concat (take n cs)) + length (concat (drop n cs)) ≡ length (concat cs)
parts-length n cs =
    sym (ap (λ (xs : List (List ℕ)). length (concat xs)) (sym (take-append-drop n cs))
    ∙ ap length (concat-append (take n cs) (drop n cs))
    ∙ length-append (concat (take n cs)) (concat (drop n cs)))

range-length : (cs : List (List ℕ)) (a b : ℕ) → length (concat (slice_range cs a b)) ≤ length (concat cs)
range-length cs a b =
    let e = parts-length a cs in let f = parts-length (b - a) (drop a cs) in omega (arith, e, f)

module _ (s : Store) (t : StoredTerm) (x : Xorb) (found : Some x ≡ xorb_of s t.xorb) where
  chunks-are : x.chunks ≡ unwrap_or (option_map (λ y. y.chunks) (xorb_of s t.xorb)) []
  chunks-are = ap (λ (o : Option Xorb). unwrap_or (option_map (λ y. y.chunks) o) []) found

  -- its bytes are few enough to be counted
  pub bytes-counted : IsValid s → (bytes : List ℕ) (n : ℕ) → bytes ≡ concat (slice_range x.chunks t.from t.to)
      → n ≡ min (length bytes) (2 ^ 32 - 1) → n ≡ term_length s t
  bytes-counted valid bytes n are is =
      let good : IsValidXorb x = found-one IsValidXorb (λ y. hash_eq y.hash t.xorb) s.xorbs x valid.xorbs (sym found) in
      let few = good.byte_count in
      let part = range-length x.chunks t.from t.to in
      let e = ap length are in
      let f : length (concat (slice_range x.chunks t.from t.to)) ≡ term_length s t =
      ap (λ (cs : List (List ℕ)). length (concat (slice_range cs t.from t.to))) chunks-are in
      omega (arith, few, part, e, f, is)
