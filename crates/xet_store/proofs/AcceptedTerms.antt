-- What the tests of a store's refusals say.
use Rattle.std.proofs.Common.{◌≡◌, ℕ, ◌+◌, ◌<◌, ◌^◌, ◌∙◌, [], ◌∷◌, ◌++◌, ◌⊎◌, inl, inr, ap, sym, arith, Bool, true, false, cond, not, List, Option, map, refl, Bor}
use Rattle.std.specs.Prelude.{Some, None, All, is_some, nat_le, nat_lt, length, ◌&&◌}
use Rattle.std.specs.List.{list_all, sum_by}
use Rattle.std.specs.Option.{option_copied}
use Rattle.std.proofs.lemmas.Bool.{false≢true, ltb-true, leb-true, leb-false}
use Rattle.std.proofs.lemmas.List.Elements.{All-map, All-weaker}
use Rattle.std.proofs.lemmas.List.Sums.{AllPass-from_list_all, sum_by-cons}
use Rattle.xet_base.specs.declared.merklehash.MerkleHash.{MerkleHash}
use Rattle.xet_base.specs.declared.mdb_shard.FileDataSequenceEntry.{FileDataSequenceEntry}
use Rattle.xet_base.specs.declared.stored.StoredTerm.{StoredTerm}
use Rattle.xet_base.specs.Store.{Store, xorb_of, file_of, chunks_of, IsTermIn}
use Rattle.xet_store.specs.declared.mem_store.StoreRefused.{StoreRefused}
use Rattle.xet_store.specs.declared.mem_store.StoreRefused.TheVariants.{Taken, BadTerm, OutOfMemory, TooLong}
use Rattle.xet_store.specs.Refusals.{file_refusal, is_term_in, stored_term, term_length}
use Rattle.xet_store.specs.steps.TermRefusals.{terms_refusal}

and_parts : (a b : Bool) → (a && b) ≡ true → (a ≡ true) × (b ≡ true)
and_parts true b h = (refl, h)
and_parts false b h = absurd (false≢true h)

pub IsTermIn-from_test : (s : Store) (t : StoredTerm) → is_term_in s t ≡ true → IsTermIn s t
IsTermIn-from_test s t h =
    let last = and_parts (nat_lt t.from t.to && is_some (xorb_of s t.xorb)) (nat_le t.to (length
    (chunks_of s t.xorb))) h in
    let first = and_parts (nat_lt t.from t.to) (is_some (xorb_of s t.xorb)) last.0 in
    record {
      some = ltb-true t.from t.to first.0;
      stored = first.1;
      inside = leb-true t.to (length (chunks_of s t.xorb)) last.1;
    }

-- what is so where no test refuses
module _ (s : Store) (f : MerkleHash) (ts : List FileDataSequenceEntry) (accepted : file_refusal s f ts ≡ None) where
  tests : (a b c : Bool) → cond a (Some Taken) (cond (not b) (Some BadTerm) (cond c (Some TooLong) None)) ≡ None
      → (a ≡ false) × (b ≡ true) × (c ≡ false)
  tests true b c h = cc
  tests false false c h = cc
  tests false true true h = cc
  tests false true false h = (refl, refl, refl)

  passed : (is_some (file_of s f) ≡ false) × (list_all (λ t. is_term_in s (stored_term t)) ts ≡ true) × (nat_le (2 ^ 64)
      (sum_by (λ t. term_length s (stored_term t)) ts) ≡ false)
  passed = tests (is_some (file_of s f)) (list_all (λ t. is_term_in s (stored_term t)) ts) (nat_le (2 ^ 64) (sum_by
      (λ t. term_length s (stored_term t)) ts)) accepted

  pub accepted_terms : All (IsTermIn s) (map stored_term ts)
  accepted_terms =
      All-map (IsTermIn s) stored_term ts
      (All-weaker (λ t. is_term_in s (stored_term t) ≡ true) (λ t. IsTermIn s (stored_term t))
      (λ t h. IsTermIn-from_test s (stored_term t) h) ts
      (AllPass-from_list_all (λ t. is_term_in s (stored_term t)) ts passed.1))

-- ---- whether a file of this hash is there

-- what a search answers, where its answer is copied
pub known : {A : Type 0} (o : Option (Bor A)) (p : Option A) (b c : Bool) → option_copied o ≡ p → b ≡ is_some o → b ≡ c
    → is_some p ≡ c
known None p b c e f g = ap is_some (sym e) ∙ sym f ∙ g
known (Some x) p b c e f g = ap is_some (sym e) ∙ sym f ∙ g

pub none_known : {A : Type 0} (o : Option A) → is_some o ≡ false → o ≡ None
none_known None e = refl
none_known (Some x) e = cc

pub refused_taken : (s : Store) (f : MerkleHash) (ts : List FileDataSequenceEntry) → is_some (file_of s f) ≡ true
    → file_refusal s f ts ≡ Some Taken
refused_taken s f ts e = rw e

pub refused_new : (s : Store) (f : MerkleHash) (ts : List FileDataSequenceEntry) → is_some (file_of s f) ≡ false
    → file_refusal s f ts ≡ terms_refusal s ts
refused_new s f ts e = rw e

-- a reason that the terms give, where no file of this hash is there
pub refused_by : (s : Store) (f : MerkleHash) (us ts : List FileDataSequenceEntry) (e : StoreRefused)
    → is_some (file_of s f) ≡ false → us ≡ ts → (e ≡ OutOfMemory) ⊎ (terms_refusal s us ≡ Some e)
    → (e ≡ OutOfMemory) ⊎ (file_refusal s f ts ≡ Some e)
refused_by s f us ts e new same (inl h) = inl h
refused_by s f us ts e new same (inr h) =
    inr (refused_new s f ts new ∙ ap (λ (xs : List FileDataSequenceEntry). terms_refusal s xs) (sym same) ∙ h)

accepted_by : (s : Store) (f : MerkleHash) (us ts : List FileDataSequenceEntry) → is_some (file_of s f) ≡ false
    → us ≡ ts → terms_refusal s us ≡ None → file_refusal s f ts ≡ None
accepted_by s f us ts new same h =
    refused_new s f ts new ∙ ap (λ (xs : List FileDataSequenceEntry). terms_refusal s xs) (sym same) ∙ h

-- what is so of the terms that are kept, where none is refused
sum_by_map : {X Y : Type 0} (n : Y → ℕ) (f : X → Y) (xs : List X) → sum_by n (map f xs) ≡ sum_by (λ x. n (f x)) xs
sum_by_map n f [] = refl
sum_by_map n f (x ∷ xs) =
    sum_by-cons n (f x) (map f xs) ∙ ap (λ (k : ℕ). n (f x) + k) (sum_by_map n f xs)
    ∙ sym (sum_by-cons (λ x. n (f x)) x xs)

module _ (s : Store) (f : MerkleHash) (us ts : List FileDataSequenceEntry) (kept : List StoredTerm)
    (new : is_some (file_of s f) ≡ false) (same : us ≡ ts) (accepted : terms_refusal s us ≡ None)
    (is : kept ≡ map stored_term us) where
  pub kept_terms : All (IsTermIn s) kept
  kept_terms =
      let all = accepted_terms s f us (accepted_by s f us us new refl accepted) in
      rw is all

  pub kept_short : sum_by (term_length s) kept < 2 ^ 64
  kept_short =
      let sum : ℕ = sum_by (λ t. term_length s (stored_term t)) us in
      let short = leb-false (2 ^ 64) sum (passed s f us (accepted_by s f us us new refl accepted)).2 in
      rw (is, sum_by_map (term_length s) stored_term us) (omega (arith, short))

  pub kept_file : (t u : Store) → u ≡ record t { files = t.files ++ record { hash = f; terms = kept } ∷ [] }
      → u ≡ record t { files = t.files ++ record { hash = f; terms = map stored_term ts } ∷ [] }
  kept_file t u e = e
      ∙ ap (λ (xs : List StoredTerm). record t { files = t.files ++ record { hash = f; terms = xs } ∷ [] }) is
      ∙ ap (λ (xs : List FileDataSequenceEntry). record t {
        files = t.files ++ record { hash = f; terms = map stored_term xs } ∷ [];
      }) same

  pub kept_accepted : file_refusal s f ts ≡ None
  kept_accepted = accepted_by s f us ts new same accepted
