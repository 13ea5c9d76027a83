-- A store is compacted to one store.
use Rattle.std.proofs.Common.{◌≡◌, ℕ, zero, suc, ◌<◌, List, [], ◌∷◌, length, map, get_or, refl, sym, ◌∙◌, ap, arith, ◌↔◌, Less, Equal, Greater, Contains, ◌⊎◌, inl, inr}
use Rattle.std.specs.List.Sorted.{IsStrictlySortedBy}
use Rattle.std.specs.Ordering.{ordering_reverse}
use Rattle.std.proofs.lemmas.Cmp.{tied_itself}
use Rattle.std.proofs.lemmas.List.{get_or-map, length-map}
use Rattle.std.proofs.lemmas.Map.Keys.{Less-from_sorted, sorted_tail}
use Rattle.xet_base.specs.declared.merklehash.MerkleHash.{MerkleHash}
use Rattle.xet_base.specs.declared.mdb_shard.Xorb.{Xorb}
use Rattle.xet_base.specs.declared.stored.StoredFile.{StoredFile}
use Rattle.xet_base.specs.Store.{IsValid, Store}
use Rattle.xet_audit.specs.Findings.{hash_cmp}
use Rattle.xet_compact.specs.Compacts.{IsCompacted}
use Rattle.xet_compact.proofs.Serving.{compacted_serves, hash_total}

-- ---- hashes in order

-- not both ways
crossed : (a b : MerkleHash) → hash_cmp a b ≡ Less → hash_cmp b a ≡ Less → ⊥
crossed a b e f = let clash : Less ≡ Greater = sym e ∙ hash_total.antisymm a b ∙ ap ordering_reverse f in cc

-- nor with itself
not_itself : (a b : MerkleHash) → a ≡ b → hash_cmp a b ≡ Less → ⊥
not_itself a b e h =
    let clash : Less ≡ Equal = sym h ∙ ap (λ (x : MerkleHash). hash_cmp a x) (sym e) ∙ tied_itself hash_total a in
    cc

-- ---- strictly sorted lists

module _ {A : Type 0} (key : A → MerkleHash) where
  -- what stands behind the first is above it
  above : (x : A) (xs : List A) (z : A) → IsStrictlySortedBy hash_cmp (map key (x ∷ xs)) → Contains xs z
      → hash_cmp (key x) (key z) ≡ Less
  above x xs z h c =
      let long = length-map xs key in
      let less = Less-from_sorted hash_cmp (map key (x ∷ xs)) 0 (suc c.0) (key z) h (omega arith) (omega (arith, c.1, long)) in
      sym (ap (λ (k : MerkleHash). hash_cmp (key x) k) (get_or-map key xs c.0 z (key z) c.1 ∙ ap key c.2)) ∙ less

  first : (x : A) (xs : List A) → Contains (x ∷ xs) x
  first x xs = (zero, omega arith, refl)

  later : (x : A) (xs : List A) (z : A) → Contains xs z → Contains (x ∷ xs) z
  later x xs z c = (suc c.0, omega (arith, c.1), c.2)

  -- an element is the first, or stands behind it
  behind : (x : A) (xs : List A) (z : A) → Contains (x ∷ xs) z → (x ≡ z) ⊎ Contains xs z
  behind x xs z c = go c.0 c.1 c.2
    where
      go : (k : ℕ) → k < length (x ∷ xs) → get_or (x ∷ xs) k z ≡ z → (x ≡ z) ⊎ Contains xs z
      go zero l e = inl e
      go (suc k) l e = inr (k, omega (arith, l), e)

  -- of two such lists with the same elements the first ones are the same
  same_first : (x y : A) (xs ys : List A) → IsStrictlySortedBy hash_cmp (map key (x ∷ xs))
      → IsStrictlySortedBy hash_cmp (map key (y ∷ ys)) → Contains (y ∷ ys) x → Contains (x ∷ xs) y → x ≡ y
  same_first x y xs ys a b c d = go (behind y ys x c) (behind x xs y d)
    where
      go : (y ≡ x) ⊎ Contains ys x → (x ≡ y) ⊎ Contains xs y → x ≡ y
      go (inl e) o = sym e
      go (inr f) (inl e) = e
      go (inr f) (inr g) = absurd (crossed (key y) (key x) (above y ys x b f) (above x xs y a g))

  -- and what stands behind one stands behind the other
  same_rest : (x y : A) (xs ys : List A) (z : A) → x ≡ y → IsStrictlySortedBy hash_cmp (map key (x ∷ xs)) → Contains xs z
      → Contains (y ∷ ys) z → Contains ys z
  same_rest x y xs ys z e h c d = go (behind y ys z d)
    where
      go : (y ≡ z) ⊎ Contains ys z → Contains ys z
      go (inl f) = absurd (not_itself (key x) (key z) (ap key (e ∙ f)) (above x xs z h c))
      go (inr f) = f

  pub ascending_alike : (xs ys : List A) → IsStrictlySortedBy hash_cmp (map key xs) → IsStrictlySortedBy hash_cmp (map key ys)
      → ((z : A) → Contains xs z ↔ Contains ys z) → xs ≡ ys
  ascending_alike [] [] a b h = refl
  ascending_alike [] (y ∷ ys) a b h = let none = ((h y).1 (first y ys)).1 in absurd (omega (arith, none))
  ascending_alike (x ∷ xs) [] a b h = let none = ((h x).0 (first x xs)).1 in absurd (omega (arith, none))
  ascending_alike (x ∷ xs) (y ∷ ys) a b h =
      let head = same_first x y xs ys a b ((h x).0 (first x xs)) ((h y).1 (first y ys)) in
      let tail = ascending_alike xs ys (sorted_tail hash_cmp (key x) (map key xs) a) (sorted_tail hash_cmp (key y) (map key ys) b)
      (λ z. (
        λ c. same_rest x y xs ys z head a c ((h z).0 (later x xs z c)),
        λ c. same_rest y x ys xs z (sym head) b c ((h z).1 (later y ys z c)),
      )) in
      λ i. head i ∷ tail i

-- ---- compacted stores

pub compacted_alike : (s t u : Store) → IsCompacted s t → IsCompacted s u → t ≡ u
compacted_alike s t u c d =
    let xorbs : t.xorbs ≡ u.xorbs = ascending_alike (λ (x : Xorb). x.hash) t.xorbs u.xorbs c.xorbs_ascend d.xorbs_ascend
    (λ x. (λ w. (d.xorbs x).1 ((c.xorbs x).0 w), λ w. (c.xorbs x).1 ((d.xorbs x).0 w))) in
    let files : t.files ≡ u.files = ascending_alike (λ (f : StoredFile). f.hash) t.files u.files c.files_ascend d.files_ascend
    (λ f. (λ w. (d.files f).1 ((c.files f).0 w), λ w. (c.files f).1 ((d.files f).0 w))) in
    ap (λ (l : List Xorb). let r : Store = record { xorbs = l; files = t.files } in r) xorbs
    ∙ ap (λ (l : List StoredFile). let r : Store = record { xorbs = u.xorbs; files = l } in r) files

pub compacted_again : (s t u : Store) → IsValid s → IsCompacted s t → IsCompacted t u → u ≡ t
compacted_again s t u valid c d = compacted_alike t u t d (compacted_serves s t valid c).again
