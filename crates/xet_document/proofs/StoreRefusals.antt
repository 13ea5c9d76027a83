-- What a store refuses, against what makes a store with it valid.
use Rattle.std.proofs.Common.{◌≡◌, ℕ, ◌+◌, ◌^◌, ◌<◌, Bool, true, false, cond, not, List, [], ◌∷◌, ◌++◌, length, map, get_or, refl, sym, ◌∙◌, ap, subst, arith}
use Rattle.std.specs.Prelude.{Option, Some, None, All, AllPairs, IsFalse, find, is_some, option_map, unwrap_or, nat_le, ◌==◌}
use Rattle.std.specs.List.{concat, flat_map, list_any, list_all, sum_by}
use Rattle.std.proofs.lemmas.Bool.{false≢true, lt-ltb, le-leb, lt-leb, leb-false, ne_eqb, eqb-false}
use Rattle.std.proofs.lemmas.List.{get_or_append_left, get_or_at, length-append}
use Rattle.std.proofs.lemmas.List.Elements.{All-weaker, All-head, All-tail, All-cons, All-nil}
use Rattle.std.proofs.lemmas.List.Folds.{concat-append, find-append, list_any_none, list_any_at}
use Rattle.std.proofs.lemmas.List.Sums.{sum_by-cons, list_all-from_AllPass}
use Rattle.xet_base.specs.declared.merklehash.MerkleHash.{MerkleHash}
use Rattle.xet_base.specs.declared.mdb_shard.FileDataSequenceEntry.{FileDataSequenceEntry}
use Rattle.xet_base.specs.declared.mdb_shard.Xorb.{Xorb}
use Rattle.xet_base.specs.declared.stored.StoredFile.{StoredFile}
use Rattle.xet_base.specs.declared.stored.StoredTerm.{StoredTerm}
use Rattle.xet_base.specs.Hashes.{hash_eq}
use Rattle.xet_base.specs.Store.{Store, xorb_of, file_of, chunks_of, chunks_of_term, bytes_of, IsTermIn, IsValidXorb, IsValid}
use Rattle.xet_base.proofs.CallerLemmas.{hash_eq-own}
use Rattle.xet_store.specs.declared.mem_store.StoreRefused.TheVariants.{Taken, EmptyChunk, TooManyChunks, TooLong, BadTerm}
use Rattle.xet_store.specs.Refusals.{xorb_refusal, file_refusal, is_term_in, stored_term, term_length}
use Rattle.xet_store.proofs.CallerLemmas.{accepted_terms, valid_with_file, valid_with_xorb}
use Rattle.xet_document.specs.steps.AddedMembers.{with_xorbs, with_files}

-- ---- lists

-- where nothing passes, nothing is found
find_none : {A : Type 0} (p : A → Bool) (xs : List A) → All (λ x. p x ≡ false) xs → find p xs ≡ None
find_none p [] h = refl
find_none p (x ∷ xs) h = rw (All-head (λ y. p y ≡ false) x xs h) (find_none p xs (All-tail (λ y. p y ≡ false) x xs h))

-- each element before another is related to it
before : {A : Type 0} (R : A → A → Type 0) (xs : List A) (x : A) (rest : List A) → AllPairs R (xs ++ x ∷ rest) → All (λ y. R y x) xs
before R xs x rest h = λ k d within.
    let size : length xs < length (xs ++ x ∷ rest) = omega (arith, length-append xs (x ∷ rest)) in
    let pair = h k (length xs) d within size in
    subst (λ y. R y x) (get_or_append_left xs (x ∷ rest) d k within)
    (subst (λ y. R (get_or (xs ++ x ∷ rest) k d) y) (get_or_at xs x rest d (length xs) refl) pair)

-- what holds of all elements holds of one among them
among : {A : Type 0} (P : A → Type 0) (xs : List A) (x : A) (rest : List A) → All P (xs ++ x ∷ rest) → P x
among P xs x rest h =
    let size : length xs < length (xs ++ x ∷ rest) = omega (arith, length-append xs (x ∷ rest)) in
    subst P (get_or_at xs x rest x (length xs) refl) (h (length xs) x size)

All-unmap : {A B : Type 0} (P : B → Type 0) (f : A → B) (xs : List A) → All P (map f xs) → All (λ x. P (f x)) xs
All-unmap P f [] h = All-nil (λ x. P (f x))
All-unmap P f (x ∷ xs) h =
    All-cons (λ x. P (f x)) x xs (All-head P (f x) (map f xs) h) (All-unmap P f xs (All-tail P (f x) (map f xs) h))

sum_by-map : {A B : Type 0} (g : B → ℕ) (f : A → B) (xs : List A) → sum_by g (map f xs) ≡ sum_by (λ x. g (f x)) xs
sum_by-map g f [] = refl
sum_by-map g f (x ∷ xs) =
    sum_by-cons g (f x) (map f xs) ∙ ap (λ n. g (f x) + n) (sum_by-map g f xs) ∙ sym (sum_by-cons (λ x. g (f x)) x xs)

not_any : {A : Type 0} (p : A → Bool) (xs : List A) → list_any p xs ≡ false → All (λ x. p x ≡ false) xs
not_any p xs h = λ k d within. go k d within (p (get_or xs k d)) refl
  where
    go : (k : ℕ) (d : _) → k < length xs → (b : Bool) → p (get_or xs k d) ≡ b → p (get_or xs k d) ≡ false
    go k d within false e = e
    go k d within true e = absurd (false≢true (sym h ∙ list_any_at p xs k d within e))

no_some : {A : Type 0} (o : Option A) → is_some o ≡ false → o ≡ None
no_some None e = refl
no_some (Some x) e = absurd (false≢true (sym e))

-- ---- a xorb

module _ (s : Store) (x : Xorb) where
  xorb_passes : (a b c d : Bool) → a ≡ false → b ≡ false → c ≡ false → d ≡ false → cond a (Some Taken) (cond b (Some EmptyChunk) (cond c (Some TooManyChunks) (cond d (Some TooLong) None))) ≡ None
  xorb_passes a b c d e f g h = rw (e, f, g, h) refl

  xorb_tests : (a b c d : Bool) → cond a (Some Taken) (cond b (Some EmptyChunk) (cond c (Some TooManyChunks) (cond d (Some TooLong) None))) ≡ None → (a ≡ false) × (b ≡ false) × (c ≡ false) × (d ≡ false)
  xorb_tests true b c d h = cc
  xorb_tests false true c d h = cc
  xorb_tests false false true d h = cc
  xorb_tests false false false true h = cc
  xorb_tests false false false false h = (refl, refl, refl, refl)

  -- a xorb of a valid store is not refused where the store has the xorbs before it
  pub xorb_fits : (rest : List Xorb) (fs : List StoredFile) → IsValid (record { xorbs = s.xorbs ++ x ∷ rest; files = fs }) → xorb_refusal s x ≡ None
  xorb_fits rest fs v =
      let new = find_none (λ y. hash_eq y.hash x.hash) s.xorbs (before (λ a b. IsFalse (hash_eq a.hash b.hash)) s.xorbs x rest v.xorbs_differ) in
      let good = among IsValidXorb s.xorbs x rest v.xorbs in
      let some = list_any_none (λ c. length c == 0) x.chunks (All-weaker (λ c. 0 < length c) (λ c. (length c == 0) ≡ false) (λ c h. ne_eqb (length c) 0 (λ e. omega arith)) x.chunks good.nonempty) in
      xorb_passes (is_some (xorb_of s x.hash)) (list_any (λ c. length c == 0) x.chunks) (nat_le (2 ^ 32) (length x.chunks)) (nat_le (2 ^ 32) (length (concat x.chunks)))
      (ap is_some new) some (lt-leb (2 ^ 32) (length x.chunks) good.chunk_count) (lt-leb (2 ^ 32) (length (concat x.chunks)) good.byte_count)

  -- with a xorb that is not refused a valid store stays valid
  pub valid_after_xorb : IsValid s → xorb_refusal s x ≡ None → IsValid (with_xorbs s (x ∷ []))
  valid_after_xorb v h =
      let p = xorb_tests (is_some (xorb_of s x.hash)) (list_any (λ c. length c == 0) x.chunks) (nat_le (2 ^ 32) (length x.chunks)) (nat_le (2 ^ 32) (length (concat x.chunks))) h in
      let nonempty = All-weaker (λ c. (length c == 0) ≡ false) (λ c. 0 < length c) (λ c e. let n = eqb-false (length c) 0 e in omega (arith, n)) x.chunks (not_any (λ c. length c == 0) x.chunks p.1) in
      let good : IsValidXorb x = record { nonempty = nonempty; chunk_count = leb-false (2 ^ 32) (length x.chunks) p.2; byte_count = leb-false (2 ^ 32) (length (concat x.chunks)) p.3 } in
      valid_with_xorb s x v (no_some (xorb_of s x.hash) p.0) good

-- ---- a file

-- the bytes of some terms are as many as the terms have together
length-terms : (s : Store) (ts : List FileDataSequenceEntry) → length (concat (flat_map (chunks_of_term s) (map stored_term ts))) ≡ sum_by (λ t. term_length s (stored_term t)) ts
length-terms s [] = refl
length-terms s (t ∷ ts) =
    let here = chunks_of_term s (stored_term t) in
    let rest = flat_map (chunks_of_term s) (map stored_term ts) in
    omega (arith, ap length (concat-append here rest), length-append (concat here) (concat rest), length-terms s ts, sum_by-cons (λ t. term_length s (stored_term t)) t ts)

test_of-IsTermIn : (s : Store) (t : StoredTerm) → IsTermIn s t → is_term_in s t ≡ true
test_of-IsTermIn s t i =
    let inside = le-leb t.to (length (chunks_of s t.xorb)) i.inside in
    rw (lt-ltb t.from t.to i.some, i.stored, inside) refl

module _ (s : Store) (h : MerkleHash) (ts : List FileDataSequenceEntry) where
  file_passes : (a b c : Bool) → a ≡ false → b ≡ true → c ≡ false → cond a (Some Taken) (cond (not b) (Some BadTerm) (cond c (Some TooLong) None)) ≡ None
  file_passes a b c e f g = rw (e, f, g) refl

  file_tests : (a b c : Bool) → cond a (Some Taken) (cond (not b) (Some BadTerm) (cond c (Some TooLong) None)) ≡ None → (a ≡ false) × (b ≡ true) × (c ≡ false)
  file_tests true b c h = cc
  file_tests false false c h = cc
  file_tests false true true h = cc
  file_tests false true false h = (refl, refl, refl)

  -- a file of a valid store is not refused where the store has the files before it
  pub file_fits : (rest : List StoredFile) → IsValid (with_files s (record { hash = h; terms = map stored_term ts } ∷ rest)) → file_refusal s h ts ≡ None
  file_fits rest v =
      let f : StoredFile = record { hash = h; terms = map stored_term ts } in
      let whole : Store = with_files s (f ∷ rest) in
      let new = find_none (λ g. hash_eq g.hash h) s.files (before (λ a b. IsFalse (hash_eq a.hash b.hash)) s.files f rest v.files_differ) in
      let terms = All-unmap (IsTermIn whole) stored_term ts (among (λ g. All (IsTermIn whole) g.terms) s.files f rest v.terms) in
      let inside = All-weaker (λ t. IsTermIn whole (stored_term t)) (λ t. is_term_in s (stored_term t) ≡ true)
      (λ t i. test_of-IsTermIn s (stored_term t) (record { some = i.some; stored = i.stored; inside = i.inside })) ts terms in
      let found : file_of whole h ≡ Some f = find-append (λ g. hash_eq g.hash h) s.files (f ∷ rest) ∙ rw (new, hash_eq-own h) refl in
      let bytes = ap (λ o. length (concat (flat_map (chunks_of_term s) (unwrap_or (option_map (λ g. g.terms) o) [])))) found in
      let short = among (λ g. length (bytes_of whole g.hash) < 2 ^ 64) s.files f rest v.lengths in
      let size : sum_by (λ t. term_length s (stored_term t)) ts < 2 ^ 64 = omega (arith, bytes, short, length-terms s ts) in
      file_passes (is_some (file_of s h)) (list_all (λ t. is_term_in s (stored_term t)) ts) (nat_le (2 ^ 64) (sum_by (λ t. term_length s (stored_term t)) ts))
      (ap is_some new) (list_all-from_AllPass (λ t. is_term_in s (stored_term t)) ts inside) (lt-leb (2 ^ 64) (sum_by (λ t. term_length s (stored_term t)) ts) size)

  -- with a file that is not refused a valid store stays valid
  pub valid_after_file : IsValid s → file_refusal s h ts ≡ None → IsValid (with_files s (record { hash = h; terms = map stored_term ts } ∷ []))
  valid_after_file v accepted =
      let f : StoredFile = record { hash = h; terms = map stored_term ts } in
      let p = file_tests (is_some (file_of s h)) (list_all (λ t. is_term_in s (stored_term t)) ts) (nat_le (2 ^ 64) (sum_by (λ t. term_length s (stored_term t)) ts)) accepted in
      let size = leb-false (2 ^ 64) (sum_by (λ t. term_length s (stored_term t)) ts) p.2 in
      valid_with_file s f v (no_some (file_of s h) p.0)
      (accepted_terms s h ts accepted) (omega (arith, size, sum_by-map (term_length s) stored_term ts))
