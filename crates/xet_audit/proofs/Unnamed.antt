-- The hashes of xorbs that no file names.
use Rattle.std.proofs.Common.{◌≡◌, ℕ, ◌+◌, ◌<◌, Bool, true, false, not, ◌&&◌, ◌||◌, List, [], ◌∷◌, ◌++◌, length, map, take, get_or, refl, sym, ◌∙◌, ap, cond, subst, Option, Some, None}
use Rattle.std.specs.Prelude.{Contains, filter, is_some}
use Rattle.std.specs.Cmp.{IsEquivalence, IsTotalOrder, on_equiv, on_total}
use Rattle.std.specs.Cmp.Lexicographic.{nat_list_cmp_total, nat_list_eq_equiv, texts_ties}
use Rattle.std.specs.List.{dedup, flat_map, list_any}
use Rattle.std.specs.List.Sorted.{IsPermutation, IsSorted, IsStrictlySortedBy}
use Rattle.std.specs.Ordering.{eq_by_cmp}
use Rattle.std.proofs.lemmas.List.{get_or_default}
use Rattle.std.proofs.lemmas.List.Elements.{filter_more}
use Rattle.std.proofs.lemmas.List.Folds.{Any-from_list_any, list_any-append, list_any_at}
use Rattle.std.proofs.lemmas.List.Kept.{Contains-dedup, Contains-from_dedup, IsStrictlySortedBy-dedup}
use Rattle.std.proofs.lemmas.List.Sorted.{list_any-IsPermutation}
use Rattle.std.proofs.lemmas.Map.Views.{any-filter_same}
use Rattle.xet_base.specs.declared.merklehash.MerkleHash.{MerkleHash}
use Rattle.xet_base.specs.declared.stored.StoredFile.{StoredFile}
use Rattle.xet_base.specs.declared.stored.StoredTerm.{StoredTerm}
use Rattle.xet_base.specs.Hashes.{hash_eq}
use Rattle.xet_base.specs.Store.{Store, xorb_of}
use Rattle.xet_base.proofs.CallerLemmas.{hash_eq-own, hash_eq-true, position_no, position_some}
use Rattle.xet_audit.specs.Findings.{AreSpare, hash_cmp}
use Rattle.xet_audit.specs.steps.Tables.{IsMarked, IsTable, place_of}
use Rattle.xet_audit.proofs.Tables.{hashes_of, no_xorb, no_xorb_of, the_xorb_of}

-- ---- tests that agree

same_tests : (a b : Bool) → (a ≡ true → b ≡ true) → (b ≡ true → a ≡ true) → a ≡ b
same_tests true true f g = refl
same_tests false false f g = refl
same_tests true false f g = sym (f refl)
same_tests false true f g = g refl

-- a hash among hashes, as a test and as a fact
there : (hs : List MerkleHash) (h : MerkleHash) → list_any (λ g. hash_eq g h) hs ≡ true → Contains hs h
there hs h e =
    let any = Any-from_list_any (λ g. hash_eq g h) hs e in
    (any.0, any.2, get_or_default hs any.0 h any.1 any.2 ∙ any.3 ∙ hash_eq-true any.1 h any.4)

listed : (hs : List MerkleHash) (h : MerkleHash) → Contains hs h → list_any (λ g. hash_eq g h) hs ≡ true
listed hs h c = list_any_at (λ g. hash_eq g h) hs c.0 h c.1 (ap (λ g. hash_eq g h) c.2 ∙ hash_eq-own h)

equivalence : IsEquivalence hash_eq
equivalence = on_equiv (λ (h : MerkleHash). h.0) nat_list_eq_equiv

order : IsTotalOrder hash_cmp
order = on_total (λ (h : MerkleHash). h.0) nat_list_cmp_total

ties : (a b : MerkleHash) → hash_eq a b ≡ eq_by_cmp hash_cmp a b
ties a b = texts_ties a.0 b.0

-- ---- which are named

named_in : (h : MerkleHash) (ts : List StoredTerm) → list_any (λ y. hash_eq y h) (map (λ t. t.xorb) ts) ≡ list_any (λ t. hash_eq t.xorb h) ts
named_in h [] = refl
named_in h (t ∷ ts) = ap (λ b. hash_eq t.xorb h || b) (named_in h ts)

named_by : (h : MerkleHash) (fs : List StoredFile) → list_any (λ y. hash_eq y h) (flat_map (λ f. map (λ t. t.xorb) f.terms) fs) ≡ list_any (λ f. list_any (λ t. hash_eq t.xorb h) f.terms) fs
named_by h [] = refl
named_by h (f ∷ fs) =
    list_any-append (λ y. hash_eq y h) (map (λ t. t.xorb) f.terms) (flat_map (λ f. map (λ t. t.xorb) f.terms) fs)
    ∙ ap (λ b. b || list_any (λ y. hash_eq y h) (flat_map (λ f. map (λ t. t.xorb) f.terms) fs)) (named_in h f.terms)
    ∙ ap (λ b. list_any (λ t. hash_eq t.xorb h) f.terms || b) (named_by h fs)

-- the hashes that the files name
abbrev pub seen_in : Store → List MerkleHash
seen_in s = flat_map (λ f. map (λ t. t.xorb) f.terms) s.files

-- those that aren't among some
abbrev pub unseen : List MerkleHash → MerkleHash → Bool
unseen seen k = not (list_any (λ y. hash_eq y k) seen)

-- the keys without a mark, with the next
pub unmarked_more : (keys seen left now : List MerkleHash) (marks : List Bool) (i : ℕ) (k : MerkleHash) (m : Bool) → IsMarked keys seen marks → i < length keys
    → m ≡ get_or marks i m → k ≡ get_or keys i k → left ≡ filter (unseen seen) (take i keys) → now ≡ left ++ cond m [] (k ∷ [])
    → now ≡ filter (unseen seen) (take (i + 1) keys)
unmarked_more keys seen left now marks i k m is h at own was add =
    add ∙ ap (λ (hs : List MerkleHash). hs ++ cond m [] (k ∷ [])) was
    ∙ ap (λ (hs : List MerkleHash). filter (unseen seen) (take i keys) ++ hs) (flip m ∙ ap (λ (b : Bool). cond b (k ∷ []) []) (sym test)) ∙ sym more
  where
    test : unseen seen k ≡ not m
    test = ap (λ (b : Bool). not b) (ap (λ (x : MerkleHash). list_any (λ y. hash_eq y x) seen) own ∙ sym (is.each i k m h) ∙ sym at)

    more : filter (unseen seen) (take (i + 1) keys) ≡ filter (unseen seen) (take i keys) ++ cond (unseen seen k) (k ∷ []) []
    more = filter_more (unseen seen) keys i k h ∙ ap (λ (x : MerkleHash). filter (unseen seen) (take i keys) ++ cond (unseen seen x) (x ∷ []) []) (sym own)

    flip : (b : Bool) → cond b [] (k ∷ []) ≡ cond (not b) (k ∷ []) []
    flip true = refl
    flip false = refl

-- ---- spare xorbs

module _ (s : Store) (keys : List MerkleHash) (places : List ℕ) (t : IsTable (hashes_of s.xorbs) keys places) where
  -- a hash is a key where it is a xorb's
  key_is : (h : MerkleHash) → list_any (λ y. hash_eq y h) keys ≡ is_some (xorb_of s h)
  key_is h = go (place_of keys h) refl
    where
      go : (o : Option ℕ) → place_of keys h ≡ o → list_any (λ y. hash_eq y h) keys ≡ is_some (xorb_of s h)
      go None e = position_no (λ y. hash_eq y h) keys e ∙ sym (ap is_some (no_xorb_of s keys places t h e))
      go (Some n) e =
          let found = the_xorb_of s keys places t h n e in
          (position_some (λ y. hash_eq y h) keys n e).0 ∙ sym (ap is_some (found.2 no_xorb))

  pub are_spare : (left sorted final : List MerkleHash) → left ≡ filter (unseen (seen_in s)) keys → IsPermutation left sorted → IsSorted hash_cmp sorted
      → final ≡ dedup hash_eq sorted → AreSpare s final
  are_spare left sorted final kept moved up cut = record {
    ascend = subst (IsStrictlySortedBy hash_cmp) (sym cut) (IsStrictlySortedBy-dedup order ties sorted up);
    each = λ h.
        ap (list_any (λ g. hash_eq g h)) cut ∙ cut_alike h ∙ sym (list_any-IsPermutation (λ g. hash_eq g h) left sorted moved)
        ∙ ap (list_any (λ g. hash_eq g h)) kept
        ∙ any-filter_same (λ g. hash_eq g h) (unseen (seen_in s)) (unseen (seen_in s) h) (λ g e. ap (unseen (seen_in s)) (hash_eq-true g h e)) keys
        ∙ flipped (unseen (seen_in s) h) (list_any (λ g. hash_eq g h) keys)
        ∙ ap (λ b. b && unseen (seen_in s) h) (key_is h) ∙ ap (λ b. is_some (xorb_of s h) && not b) (named_by h s.files);
  }
    where
      cut_alike : (h : MerkleHash) → list_any (λ g. hash_eq g h) (dedup hash_eq sorted) ≡ list_any (λ g. hash_eq g h) sorted
      cut_alike h = same_tests (list_any (λ g. hash_eq g h) (dedup hash_eq sorted)) (list_any (λ g. hash_eq g h) sorted)
          (λ e. listed sorted h (Contains-from_dedup hash_eq sorted h (there (dedup hash_eq sorted) h e)))
          (λ e. listed (dedup hash_eq sorted) h (Contains-dedup equivalence (λ x y. hash_eq-true x y) sorted h (there sorted h e)))

      flipped : (a b : Bool) → (a && b) ≡ (b && a)
      flipped true true = refl
      flipped true false = refl
      flipped false true = refl
      flipped false false = refl
