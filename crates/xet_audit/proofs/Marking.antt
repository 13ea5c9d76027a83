-- Marks of the xorbs that terms name.
use Rattle.std.proofs.Common.{◌≡◌, ℕ, ◌+◌, ◌<◌, ◌≤◌, Bool, true, false, ◌||◌, List, [], ◌∷◌, ◌++◌, length, map, take, get_or, set, replicate, refl, sym, ◌∙◌, ap, arith, ⊎_elim, Option, Some, None, append_assoc, append-nil}
use Rattle.std.specs.Prelude.{AllPairs, IfSome}
use Rattle.std.specs.List.{flat_map, list_any}
use Rattle.std.proofs.lemmas.Bool.{cases_eq, cases_lt, false≢true, false_from_ne_true}
use Rattle.std.proofs.lemmas.List.{get_or-replicate, get_or-set_other, get_or-set_same, get_or_default, length-replicate, length-set, map-append}
use Rattle.std.proofs.lemmas.List.Concat.{flat_map-append}
use Rattle.std.proofs.lemmas.List.Folds.{list_any-append}
use Rattle.std.proofs.lemmas.List.Quantifiers.{position-Some}
use Rattle.xet_base.specs.declared.merklehash.MerkleHash.{MerkleHash}
use Rattle.xet_base.specs.declared.stored.StoredFile.{StoredFile}
use Rattle.xet_base.specs.declared.stored.StoredTerm.{StoredTerm}
use Rattle.xet_base.specs.Hashes.{hash_eq}
use Rattle.xet_base.proofs.CallerLemmas.{eq-hash_eq, hash_eq-true, position_no}
use Rattle.xet_audit.specs.steps.Tables.{IsMarked, marked, place_of}
use Rattle.xet_audit.proofs.Lists.{next}
use Rattle.xet_audit.proofs.Tables.{any_at}

flip : (a b : MerkleHash) → hash_eq a b ≡ false → hash_eq b a ≡ false
flip a b h = false_from_ne_true (hash_eq b a) (λ e. false≢true (sym h ∙ eq-hash_eq a b (sym (hash_eq-true b a e))))

or_no : (b c : Bool) → c ≡ false → (b || (c || false)) ≡ b
or_no true c e = refl
or_no false c e = rw e refl

or_yes : (b c : Bool) → c ≡ true → (b || (c || false)) ≡ true
or_yes true c e = refl
or_yes false c e = rw e refl

-- no marks
pub none_marked : (keys : List MerkleHash) (marks : List Bool) (n : ℕ) → marks ≡ replicate n false → length keys ≡ n → IsMarked keys [] marks
none_marked keys marks n e len = record {
  count = ap length e ∙ length-replicate n false ∙ sym len;
  each = λ k d b l. ap (λ (ms : List Bool). get_or ms k b) e ∙ get_or-replicate n k false b (omega (arith, len));
}

module _ (keys seen : List MerkleHash) (x : MerkleHash) (marks : List Bool) (m : IsMarked keys seen marks) where
  -- a hash that has no key
  marks_none : place_of keys x ≡ None → IsMarked keys (seen ++ x ∷ []) marks
  marks_none h = record {
    count = m.count;
    each = λ k d b l.
        let other : hash_eq x (get_or keys k d) ≡ false = flip (get_or keys k d) x (any_at (λ y. hash_eq y x) keys k d (position_no (λ y. hash_eq y x) keys h) l) in
        m.each k d b l ∙ sym (list_any-append (λ y. hash_eq y (get_or keys k d)) seen (x ∷ []) ∙ or_no _ _ other);
  }

  -- one that has
  marks_found : (i : ℕ) → AllPairs (λ a b. hash_eq a b ≡ false) keys → place_of keys x ≡ Some i → IsMarked keys (seen ++ x ∷ []) (set marks i true)
  marks_found i apart h = record {
    count = length-set marks i true ∙ m.count;
    each = λ k d b l. ⊎_elim
        (λ (e : k ≡ i). now k d b l e)
        (λ (n : k ≡ i → ⊥).
        get_or-set_other marks i k true b n ∙ m.each k d b l
        ∙ sym (list_any-append (λ y. hash_eq y (get_or keys k d)) seen (x ∷ []) ∙ or_no _ _ (other k d l n)))
        (cases_eq k i);
  }
    where
      is : (i < length keys) × (hash_eq (get_or keys i x) x ≡ true) × ((k : ℕ) → k < i → hash_eq (get_or keys k x) x ≡ false)
      is = position-Some (λ y. hash_eq y x) keys i x h

      same : get_or keys i x ≡ x
      same = hash_eq-true (get_or keys i x) x is.1

      now : (k : ℕ) (d : MerkleHash) (b : Bool) → k < length keys → k ≡ i → get_or (set marks i true) k b ≡ list_any (λ y. hash_eq y (get_or keys k d)) (seen ++ x ∷ [])
      now k d b l e =
          let key : x ≡ get_or keys k d = sym same ∙ get_or_default keys i x d is.0 ∙ ap (λ (n : ℕ). get_or keys n d) (sym e) in
          ap (λ (n : ℕ). get_or (set marks i true) n b) e ∙ get_or-set_same marks i true b (omega (arith, is.0, m.count))
          ∙ sym (list_any-append (λ y. hash_eq y (get_or keys k d)) seen (x ∷ []) ∙ or_yes _ _ (eq-hash_eq x (get_or keys k d) key))

      other : (k : ℕ) (d : MerkleHash) → k < length keys → (k ≡ i → ⊥) → hash_eq x (get_or keys k d) ≡ false
      other k d l n = ⊎_elim
          (λ (b : k < i). flip (get_or keys k d) x (ap (λ (y : MerkleHash). hash_eq y x) (get_or_default keys k d x l) ∙ is.2 k b))
          (λ (b : i ≤ k).
          ap (λ (y : MerkleHash). hash_eq y (get_or keys k d)) (sym same ∙ get_or_default keys i x d is.0) ∙ apart i k d (omega (arith, n)) l)
          (cases_lt k i)

pub marks_more : (keys seen : List MerkleHash) (x : MerkleHash) (marks : List Bool) (o : Option ℕ) → AllPairs (λ a b. hash_eq a b ≡ false) keys
    → o ≡ place_of keys x → IsMarked keys seen marks → IsMarked keys (seen ++ x ∷ []) (marked o marks)
marks_more keys seen x marks None apart e m = marks_none keys seen x marks m (sym e)
marks_more keys seen x marks (Some i) apart e m = marks_found keys seen x marks m i apart (sym e)

-- how many marks there are stays
pub marked_count : (o : Option ℕ) (marks : List Bool) → length (marked o marks) ≡ length marks
marked_count None marks = refl
marked_count (Some i) marks = length-set marks i true

-- one term more of a file, and one file more
abbrev xorbs_of : List StoredTerm → List MerkleHash
xorbs_of ts = map (λ t. t.xorb) ts

pub seen_more : (seen : List MerkleHash) (ts : List StoredTerm) (i : ℕ) (t : StoredTerm) → i < length ts → t ≡ get_or ts i t
    → seen ++ xorbs_of (take (i + 1) ts) ≡ (seen ++ xorbs_of (take i ts)) ++ t.xorb ∷ []
seen_more seen ts i t h is =
    ap (λ (us : List StoredTerm). seen ++ xorbs_of us) (next ts i t h is)
    ∙ ap (λ (hs : List MerkleHash). seen ++ hs) (map-append (λ (u : StoredTerm). u.xorb) (take i ts) (t ∷ []))
    ∙ sym (append_assoc seen (xorbs_of (take i ts)) (t.xorb ∷ []))

pub named_more : (fs : List StoredFile) (i : ℕ) (f : StoredFile) → i < length fs → f ≡ get_or fs i f
    → flat_map (λ g. xorbs_of g.terms) (take (i + 1) fs) ≡ flat_map (λ g. xorbs_of g.terms) (take i fs) ++ xorbs_of f.terms
named_more fs i f h is =
    ap (flat_map (λ (g : StoredFile). xorbs_of g.terms)) (next fs i f h is)
    ∙ flat_map-append (λ (g : StoredFile). xorbs_of g.terms) (take i fs) (f ∷ [])
    ∙ ap (λ (hs : List MerkleHash). flat_map (λ (g : StoredFile). xorbs_of g.terms) (take i fs) ++ hs) (append-nil (xorbs_of f.terms))

-- the number of a key is one of a mark
pub number_within : (keys : List MerkleHash) (x : MerkleHash) (marks : List Bool) (o : Option ℕ) → o ≡ place_of keys x → length marks ≡ length keys → IfSome o (λ n. n < length marks)
number_within keys x marks None e len = tt
number_within keys x marks (Some n) e len =
    let is = position-Some (λ y. hash_eq y x) keys n x (sym e) in
    omega (arith, is.0, len)
