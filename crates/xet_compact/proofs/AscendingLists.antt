-- Lists by ascending hash.
use Rattle.std.proofs.Common.{◌≡◌, ℕ, zero, suc, ◌+◌, ◌-◌, ◌<◌, ◌≤◌, Bool, true, false, List, [], ◌∷◌, length, map, get_or, refl, sym, ◌∙◌, ap, subst, arith, ◌↔◌, Less, Equal, Greater, Ordering, All, AllPairs, Contains, IsPermutation, is_eq, is_lt, nat_cmp, ⊎_elim, ◌⊎◌, inl, inr}
use Rattle.std.specs.Cmp.Lexicographic.{slice_cmp}
use Rattle.std.specs.List.{AllByRecursion, dedup}
use Rattle.std.specs.List.Sorted.{IsSortedByKey, IsStrictlySortedBy}
use Rattle.std.specs.Ordering.{eq_by_cmp, on, ordering_reverse}
use Rattle.std.specs.Cmp.{IsEquivalence, IsTotalOrder}
use Rattle.std.proofs.lemmas.Bool.{cases_lt, true≢false}
use Rattle.std.proofs.lemmas.Cmp.{nat_list_eq_equiv, on_equiv, on_total}
use Rattle.std.proofs.lemmas.List.{get_or_default, get_or-map, length-map}
use Rattle.std.proofs.lemmas.List.Kept.{Any-dedup, Contains-from_dedup, IsStrictlySortedBy-dedup}
use Rattle.std.proofs.lemmas.List.Sorted.{Contains-permutation, IsPermutation-map, IsPermutation-sym, length_permutation, ranks_by, sorted_far}
use Rattle.std.proofs.lemmas.Map.Keys.{IsDistinct-IsPermutation, IsDistinct-from_apart, apart_from_distinct, sorted_from_all_adjacent}
use Rattle.std.proofs.lemmas.Map.Text.{is_eq-slice_cmp}
use Rattle.xet_base.specs.declared.merklehash.MerkleHash.{MerkleHash}
use Rattle.xet_base.specs.declared.mdb_shard.Xorb.{Xorb}
use Rattle.xet_base.specs.Hashes.{hash_eq}
use Rattle.xet_base.proofs.CallerLemmas.{hash_eq-true, eq-hash_eq}
use Rattle.xet_audit.specs.Findings.{hash_cmp}
use Rattle.xet_audit.specs.declared.raw_store.RawFile.{RawFile}
use Rattle.xet_compact.specs.steps.Ascending.{AreFiles, AreXorbs, ClashesAt, NoneClashes}
use Rattle.xet_compact.proofs.Serving.{hash_total}

-- ---- the order of two hashes

-- hashes that compare as equal are
pub cmp_equal : (a b : MerkleHash) → hash_cmp a b ≡ Equal → a ≡ b
cmp_equal a b h = hash_eq-true a b (sym (is_eq-slice_cmp a.0 b.0) ∙ ap is_eq h)

-- what isn't before and isn't equal is behind
less_from : (a b : MerkleHash) → is_lt (hash_cmp b a) ≡ false → hash_eq a b ≡ false → hash_cmp a b ≡ Less
less_from a b h differ = go (hash_cmp b a) refl
  where
    go : (o : Ordering) → hash_cmp b a ≡ o → hash_cmp a b ≡ Less
    go Less e = absurd (true≢false (sym (ap is_lt e) ∙ h))
    go Equal e = absurd (true≢false (sym (eq-hash_eq a b (sym (cmp_equal b a e))) ∙ differ))
    go Greater e = hash_total.antisymm a b ∙ ap ordering_reverse e

-- what is neither before nor behind is equal
same_from : (a b : MerkleHash) → is_lt (hash_cmp b a) ≡ false → is_lt (hash_cmp a b) ≡ false → a ≡ b
same_from a b h k = go (hash_cmp a b) refl
  where
    go : (o : Ordering) → hash_cmp a b ≡ o → a ≡ b
    go Less e = absurd (true≢false (sym (ap is_lt e) ∙ k))
    go Equal e = cmp_equal a b e
    go Greater e = absurd (true≢false (sym (ap is_lt (hash_total.antisymm b a ∙ ap ordering_reverse e)) ∙ h))

-- ---- sorted lists

-- each hash is below the next one
pub ascends_by : {A : Type 0} (key : A → MerkleHash) (xs : List A)
    → ((k : ℕ) (d : A) → k + 1 < length xs → hash_cmp (key (get_or xs k d)) (key (get_or xs (k + 1) d)) ≡ Less)
    → IsStrictlySortedBy hash_cmp (map key xs)
unfolding IsStrictlySortedBy
ascends_by key [] h = tt
ascends_by key (x ∷ xs) h =
    sorted_from_all_adjacent hash_total (map key (x ∷ xs)) (key x) (λ k l.
    let long = length-map (x ∷ xs) key in
    let at = get_or-map key (x ∷ xs) k x (key x) (omega (arith, l, long)) in
    let at_next = get_or-map key (x ∷ xs) (k + 1) x (key x) (omega (arith, l, long)) in
    ap (λ (h : MerkleHash). hash_cmp h (get_or (map key (x ∷ xs)) (k + 1) (key x))) at
    ∙ ap (λ (h : MerkleHash). hash_cmp (key (get_or (x ∷ xs) k x)) h) at_next
    ∙ h k x (omega (arith, l, long)))

module _ {A : Type 0} (key : A → MerkleHash) where
  -- a sorted list whose hashes differ ascends
  pub ascends : (xs : List A) → IsSortedByKey key hash_cmp xs → AllPairs (λ a b. hash_eq (key a) (key b) ≡ false) xs
      → IsStrictlySortedBy hash_cmp (map key xs)
  unfolding IsStrictlySortedBy
  ascends [] sorted apart = tt
  ascends (x ∷ xs) sorted apart =
      sorted_from_all_adjacent hash_total (map key (x ∷ xs)) (key x) (λ k l.
      let long = length-map (x ∷ xs) key in
      let at = get_or-map key (x ∷ xs) k x (key x) (omega (arith, l, long)) in
      let at_next = get_or-map key (x ∷ xs) (k + 1) x (key x) (omega (arith, l, long)) in
      ap (λ (h : MerkleHash). hash_cmp h (get_or (map key (x ∷ xs)) (k + 1) (key x))) at
      ∙ ap (λ (h : MerkleHash). hash_cmp (key (get_or (x ∷ xs) k x)) h) at_next
      ∙ less_from (key (get_or (x ∷ xs) k x)) (key (get_or (x ∷ xs) (k + 1) x))
      (sorted k x (omega arith) (omega (arith, l, long))) (apart k (k + 1) x (omega arith) (omega (arith, l, long))))

  -- hashes that differ still do in another order
  pub apart_moved : (xs ys : List A) → IsPermutation xs ys → AllPairs (λ a b. hash_eq (key a) (key b) ≡ false) xs
      → AllPairs (λ a b. hash_eq (key a) (key b) ≡ false) ys
  apart_moved xs ys moved apart = λ i j d less within.
      let long = length-map ys key in
      let before = IsDistinct-from_apart hash_eq (map key xs) (λ i j h less within. keys_apart xs apart i j h less within) in
      let after = IsDistinct-IsPermutation hash_eq (λ a b. nat_list_eq_equiv.symm a.0 b.0) (map key xs) (map key ys)
      (IsPermutation-map key xs ys moved) before in
      let keys = apart_from_distinct hash_eq (map key ys) i j (key d) after less (omega (arith, within, long)) in
      let at_i = get_or-map key ys i d (key d) (omega (arith, less, within)) in
      let at_j = get_or-map key ys j d (key d) within in
      sym (ap (λ (h : MerkleHash). hash_eq h (get_or (map key ys) j (key d))) at_i
      ∙ ap (λ (h : MerkleHash). hash_eq (key (get_or ys i d)) h) at_j) ∙ keys
    where
      keys_apart : (xs : List A) → AllPairs (λ a b. hash_eq (key a) (key b) ≡ false) xs → (i j : ℕ) (h : MerkleHash)
          → i < j → j < length (map key xs) → hash_eq (get_or (map key xs) i h) (get_or (map key xs) j h) ≡ false
      keys_apart [] apart i j h less within = absurd (omega (arith, within))
      keys_apart (x ∷ xs) apart i j h less within =
          let long = length-map (x ∷ xs) key in
          let at_i = get_or-map key (x ∷ xs) i x h (omega (arith, less, within, long)) in
          let at_j = get_or-map key (x ∷ xs) j x h (omega (arith, within, long)) in
          ap (λ (k : MerkleHash). hash_eq k (get_or (map key (x ∷ xs)) j h)) at_i
          ∙ ap (λ (k : MerkleHash). hash_eq (key (get_or (x ∷ xs) i x)) k) at_j
          ∙ apart i j x less (omega (arith, within, long))

pub sorted_files_ascend : (files sorted : List RawFile) → IsPermutation files sorted
    → IsSortedByKey (λ (f : RawFile). f.hash) hash_cmp sorted
    → AllPairs (λ (a b : RawFile). hash_eq a.hash b.hash ≡ false) files → AreFiles files sorted
sorted_files_ascend files sorted moved order apart = record {
  ascend = ascends (λ (f : RawFile). f.hash) sorted order (apart_moved (λ (f : RawFile). f.hash) files sorted moved apart);
  moved = moved;
}

-- ---- xorbs of which some have one hash

abbrev pub same_hash : Xorb → Xorb → Bool
same_hash a b = hash_eq a.hash b.hash

same_hash_equiv : IsEquivalence same_hash
same_hash_equiv = on_equiv (λ (x : Xorb). x.hash.0) nat_list_eq_equiv

-- where neighbours with one hash are the same, all with one hash are
module _ (xs : List Xorb) (sorted : IsSortedByKey (λ (x : Xorb). x.hash) hash_cmp xs) (none : NoneClashes xs) where
  far : (i j : ℕ) (d : Xorb) → i ≤ j → j < length xs → is_lt (hash_cmp (get_or xs j d).hash (get_or xs i d).hash) ≡ false
  far = sorted_far (λ (a b : Xorb). is_lt (hash_cmp a.hash b.hash)) (ranks_by hash_total (λ (x : Xorb). x.hash)) xs sorted

  run_same : (n i : ℕ) (d : Xorb) → i + n < length xs → (get_or xs i d).hash ≡ (get_or xs (i + n) d).hash
      → get_or xs i d ≡ get_or xs (i + n) d
  run_same zero i d l e = let same : i ≡ i + zero = omega arith in ap (λ (k : ℕ). get_or xs k d) same
  run_same (suc n) i d l e =
      let place : i + suc n ≡ i + 1 + n = omega arith in
      let behind : is_lt (hash_cmp (get_or xs (i + suc n) d).hash (get_or xs (i + 1) d).hash) ≡ false = far (i + 1) (i + suc n)
      d (omega arith) l in
      let above : is_lt (hash_cmp (get_or xs i d).hash (get_or xs (i + 1) d).hash) ≡ false = ap (λ (h : MerkleHash). is_lt
      (hash_cmp h (get_or xs (i + 1) d).hash)) e ∙ behind in
      let hash : (get_or xs i d).hash ≡ (get_or xs (i + 1) d).hash = same_from (get_or xs i d).hash (get_or xs (i + 1) d).hash
      (far i (i + 1) d (omega arith) (omega (arith, l))) above in
      let chunks = none i d (omega (arith, l)) hash in
      let next : get_or xs i d ≡ get_or xs (i + 1) d = λ t. let y : Xorb = record { hash = hash t; chunks = chunks t } in y in
      let rest = run_same n (i + 1) d (omega (arith, l, place)) (sym hash ∙ e ∙ ap (λ (k : ℕ). (get_or xs k d).hash) place) in
      next ∙ rest ∙ ap (λ (k : ℕ). get_or xs k d) (sym place)

  all_same : (x y : Xorb) → Contains xs x → Contains xs y → x.hash ≡ y.hash → x ≡ y
  all_same x y c d e = ⊎_elim (λ (less : c.0 ≤ d.0). forward x y c d e less) (λ (more : d.0 ≤ c.0).
      sym (forward y x d c (sym e) more)) (either c.0 d.0)
    where
      either : (a b : ℕ) → (a ≤ b) ⊎ (b ≤ a)
      either a b = ⊎_elim (λ (l : a < b). inl (omega (arith, l))) (λ (l : b ≤ a). inr l) (cases_lt a b)

      forward : (x y : Xorb) (c : Contains xs x) (d : Contains xs y) → x.hash ≡ y.hash → c.0 ≤ d.0 → x ≡ y
      forward x y c d e less =
          let sum : c.0 + (d.0 - c.0) ≡ d.0 = omega (arith, less) in
          let at_y : get_or xs (c.0 + (d.0 - c.0)) x ≡ y = ap (λ (k : ℕ). get_or xs k x) sum ∙ get_or_default xs d.0 x y d.1
          ∙ d.2 in
          sym c.2 ∙ run_same (d.0 - c.0) c.0 x (omega (arith, sum, d.1)) (ap (λ (z : Xorb). z.hash) c.2 ∙ e ∙ sym (ap
          (λ (z : Xorb). z.hash) at_y)) ∙ at_y

ascend_keys : (xs : List Xorb) → IsStrictlySortedBy (on (λ (x : Xorb). x.hash) hash_cmp) xs
    → IsStrictlySortedBy hash_cmp (map (λ (x : Xorb). x.hash) xs)
unfolding IsStrictlySortedBy
ascend_keys [] h = tt
ascend_keys (x ∷ xs) h = (below xs h.0, ascend_keys xs h.1)
  where
    below : (ys : List Xorb) → AllByRecursion (λ (y : Xorb). hash_cmp x.hash y.hash ≡ Less) ys
        → AllByRecursion (λ (k : MerkleHash). hash_cmp x.hash k ≡ Less) (map (λ (y : Xorb). y.hash) ys)
    below [] b = tt
    below (y ∷ ys) b = (b.0, below ys b.1)

pub merged_ascend : (xorbs sorted : List Xorb) → IsPermutation xorbs sorted → IsSortedByKey (λ (x : Xorb). x.hash) hash_cmp sorted
    → NoneClashes sorted → AreXorbs xorbs (dedup same_hash sorted)
merged_ascend xorbs sorted moved order none = record {
  ascend = ascend_keys (dedup same_hash sorted) (IsStrictlySortedBy-dedup (on_total (λ (x : Xorb). x.hash) hash_total)
      (λ a b. sym (is_eq-slice_cmp a.hash.0 b.hash.0)) sorted order);
  same = λ x. (
    λ within. Contains-permutation sorted xorbs x (IsPermutation-sym xorbs sorted moved) (Contains-from_dedup same_hash
        sorted x within),
    λ within.
        let there = Contains-permutation xorbs sorted x moved within in
        let found = Any-dedup same_hash_equiv sorted x there in
        let kept : Contains (dedup same_hash sorted) found.1 = (found.0, found.2, found.3) in
        let back = Contains-from_dedup same_hash sorted found.1 kept in
        let same = all_same sorted order none x found.1 there back (hash_eq-true x.hash found.1.hash found.4) in
        subst (λ (y : Xorb). Contains (dedup same_hash sorted) y) (sym same) kept,
  );
}

pub clash_moved : (xorbs sorted : List Xorb) (h : MerkleHash) → IsPermutation xorbs sorted → ClashesAt sorted h → ClashesAt xorbs h
clash_moved xorbs sorted h moved c =
    let back = IsPermutation-sym xorbs sorted moved in
    record {
      one = c.one;
      other = c.other;
      one_in = Contains-permutation sorted xorbs c.one back c.one_in;
      other_in = Contains-permutation sorted xorbs c.other back c.other_in;
      same_hash = c.same_hash;
      differ = c.differ;
    }
