-- A store with one more xorb or file.
use Rattle.std.proofs.Common.{◌≡◌, ℕ, ◌^◌, ◌<◌, ◌≤◌, Bool, true, false, cond, List, [], ◌∷◌, ◌++◌, length, get_or, refl, sym, ◌∙◌, ap, subst, arith}
use Rattle.std.specs.Prelude.{Option, Some, None, IsSome, is_none, find, option_map, unwrap_or, slice_range, All, IsFalse}
use Rattle.std.specs.List.{concat, flat_map, sum_by}
use Rattle.std.specs.Option.{option_or}
use Rattle.std.proofs.lemmas.Bool.{false≢true}
use Rattle.std.proofs.lemmas.List.{length-append}
use Rattle.std.proofs.lemmas.List.Folds.{find-append, list_any_at, concat-append}
use Rattle.std.proofs.lemmas.List.Elements.{All-push, All-weaker, All-head, All-tail, All-nil}
use Rattle.std.proofs.lemmas.List.Quantifiers.{all_pairs_push}
use Rattle.std.proofs.lemmas.List.Sums.{sum_by-cons}
use Rattle.xet_base.specs.declared.merklehash.MerkleHash.{MerkleHash}
use Rattle.xet_base.specs.declared.mdb_shard.Xorb.{Xorb}
use Rattle.xet_base.specs.declared.stored.StoredTerm.{StoredTerm}
use Rattle.xet_base.specs.declared.stored.StoredFile.{StoredFile}
use Rattle.xet_base.specs.Hashes.{hash_eq}
use Rattle.xet_base.specs.Store.{Store, xorb_of, file_of, chunks_of_term, terms_of_file, bytes_of, IsTermIn, IsValidXorb, IsValid}
use Rattle.xet_base.proofs.CallerLemmas.{find_some, hash_eq-own}
use Rattle.xet_store.specs.Refusals.{term_length}
use Rattle.xet_store.proofs.Searches.{find_none-at, find_within}

-- what is found first is found also with more behind
option_or-some : {A : Type 0} (o p : Option A) → IsSome o → option_or o p ≡ o
option_or-some None p h = absurd (false≢true h)
option_or-some (Some x) p h = refl

find_kept : {A : Type 0} (p : A → Bool) (xs ys : List A) → IsSome (find p xs) → find p (xs ++ ys) ≡ find p xs
find_kept p xs ys h = find-append p xs ys ∙ option_or-some (find p xs) (find p ys) h

-- ---- one more xorb

abbrev with_xorb : Store → Xorb → Store
with_xorb s x = record s { xorbs = s.xorbs ++ x ∷ [] }

module _ (s : Store) (x : Xorb) where
  xorb_kept : (h : MerkleHash) → IsSome (xorb_of s h) → xorb_of (with_xorb s x) h ≡ xorb_of s h
  xorb_kept h some = find_kept (λ y. hash_eq y.hash h) s.xorbs (x ∷ []) some

  chunks_kept : (t : StoredTerm) → IsTermIn s t → chunks_of_term (with_xorb s x) t ≡ chunks_of_term s t
  chunks_kept t i = ap (λ o. slice_range (unwrap_or (option_map (λ y. y.chunks) o) []) t.from t.to)
      (xorb_kept t.xorb i.stored)

  term_kept : (t : StoredTerm) → IsTermIn s t → IsTermIn (with_xorb s x) t
  term_kept t i =
      let e = xorb_kept t.xorb i.stored in
      record {
        some = i.some;
        stored = subst (λ o. IsSome o) (sym e) i.stored;
        inside = subst (λ o. t.to ≤ length (unwrap_or (option_map (λ y. y.chunks) o) [])) (sym e) i.inside;
      }

  all_chunks_kept : (ts : List StoredTerm) → All (IsTermIn s) ts
      → flat_map (chunks_of_term (with_xorb s x)) ts ≡ flat_map (chunks_of_term s) ts
  all_chunks_kept [] a = refl
  all_chunks_kept (t ∷ ts) a =
      let here = chunks_kept t (All-head (IsTermIn s) t ts a) in
      let rest = all_chunks_kept ts (All-tail (IsTermIn s) t ts a) in
      λ i. here i ++ rest i

  bytes_kept : All (λ f. All (IsTermIn s) f.terms) s.files → (h : MerkleHash)
      → bytes_of (with_xorb s x) h ≡ bytes_of s h
  bytes_kept a h = ap concat (all_chunks_kept (terms_of_file s h) (go (file_of s h) refl))
    where
      go : (o : Option StoredFile) → file_of s h ≡ o → All (IsTermIn s) (unwrap_or (option_map (λ f. f.terms) o) [])
      go None e = All-nil (IsTermIn s)
      go (Some f) e =
          let w = find_within (λ f. hash_eq f.hash h) s.files f e in
          subst (λ (g : StoredFile). All (IsTermIn s) g.terms) w.2 (a w.0 f w.1)

  pub valid_with_xorb : IsValid s → xorb_of s x.hash ≡ None → IsValidXorb x → IsValid (with_xorb s x)
  valid_with_xorb v new good = record {
    xorbs_differ = all_pairs_push (λ a b. IsFalse (hash_eq a.hash b.hash)) s.xorbs x v.xorbs_differ (find_none-at
        (λ y. hash_eq y.hash x.hash) s.xorbs new);
    files_differ = v.files_differ;
    xorbs = All-push IsValidXorb s.xorbs x v.xorbs good;
    terms = All-weaker (λ f. All (IsTermIn s) f.terms) (λ f. All (IsTermIn (with_xorb s x)) f.terms) (λ f. All-weaker
        (IsTermIn s) (IsTermIn (with_xorb s x)) term_kept f.terms) s.files v.terms;
    lengths = All-weaker (λ f. length (bytes_of s f.hash) < 2 ^ 64) (λ f. length (bytes_of
        (with_xorb s x) f.hash) < 2 ^ 64)
        (λ f h. subst (λ bytes. length bytes < 2 ^ 64) (sym (bytes_kept v.terms f.hash)) h) s.files v.lengths;
  }

-- ---- one more file

abbrev with_file : Store → StoredFile → Store
with_file s f = record s { files = s.files ++ f ∷ [] }

-- the lengths of terms add up to that of their bytes
length-terms : (s : Store) (ts : List StoredTerm) → length (concat (flat_map (chunks_of_term s) ts)) ≡ sum_by
    (term_length s) ts
length-terms s [] = refl
length-terms s (t ∷ ts) =
    let here = chunks_of_term s t in
    let rest = flat_map (chunks_of_term s) ts in
    omega (
      arith,
      ap length (concat-append here rest),
      length-append (concat here) (concat rest),
      length-terms s ts,
      sum_by-cons (term_length s) t ts,
    )

module _ (s : Store) (f : StoredFile) where
  file_kept : (k : ℕ) (d : StoredFile) → k < length s.files → bytes_of (with_file s f)
      (get_or s.files k d).hash ≡ bytes_of s (get_or s.files k d).hash
  file_kept k d within =
      let h = (get_or s.files k d).hash in
      let found = find_some (λ g. hash_eq g.hash h) s.files (list_any_at (λ g. hash_eq g.hash h) s.files k d within
      (hash_eq-own h)) in
      let some : IsSome (file_of s h) = subst (λ o. IsSome o) (sym found.1) refl in
      ap (λ o. concat (flat_map (chunks_of_term s) (unwrap_or (option_map (λ g. g.terms) o) []))) (find_kept
      (λ g. hash_eq g.hash h) s.files (f ∷ []) some)

  file_added : file_of s f.hash ≡ None → bytes_of (with_file s f) f.hash ≡ concat (flat_map (chunks_of_term s) f.terms)
  file_added new =
      let found : file_of (with_file s f) f.hash ≡ Some f = find-append (λ g. hash_eq g.hash f.hash) s.files (f ∷ [])
      ∙ rw (new, hash_eq-own f.hash) refl in
      ap (λ o. concat (flat_map (chunks_of_term s) (unwrap_or (option_map (λ g. g.terms) o) []))) found

  pub valid_with_file : IsValid s → file_of s f.hash ≡ None → All (IsTermIn s) f.terms
      → sum_by (term_length s) f.terms < 2 ^ 64 → IsValid (with_file s f)
  valid_with_file v new terms short =
      let same : (t : StoredTerm) → IsTermIn s t → IsTermIn (with_file s f) t = λ t i. record {
        some = i.some;
        stored = i.stored;
        inside = i.inside;
      } in
      let old_terms = All-weaker (λ g. All (IsTermIn s) g.terms) (λ g. All (IsTermIn (with_file s f)) g.terms)
      (λ g. All-weaker (IsTermIn s) (IsTermIn (with_file s f)) same g.terms) s.files v.terms in
      let old_lengths : All (λ g. length (bytes_of (with_file s f) g.hash) < 2 ^ 64) s.files =
      λ k d within. subst (λ bytes. length bytes < 2 ^ 64) (sym (file_kept k d within)) (v.lengths k d within) in
      record {
        xorbs_differ = v.xorbs_differ;
        files_differ = all_pairs_push (λ a b. IsFalse (hash_eq a.hash b.hash)) s.files f v.files_differ (find_none-at
            (λ g. hash_eq g.hash f.hash) s.files new);
        xorbs = v.xorbs;
        terms = All-push (λ g. All (IsTermIn (with_file s f)) g.terms) s.files f old_terms (All-weaker (IsTermIn s)
            (IsTermIn (with_file s f)) same f.terms terms);
        lengths = All-push (λ g. length (bytes_of (with_file s f) g.hash) < 2 ^ 64) s.files f old_lengths
            (let e = ap length (file_added new) ∙ length-terms s f.terms in omega (arith, e, short));
      }

-- and with one that is added only where its hash is new
pub valid_with_new : (s : Store) (x : Xorb) (xs : List Xorb) (added : Bool) → IsValid s → added ≡ is_none (xorb_of s x.hash)
    → xs ≡ cond added (s.xorbs ++ x ∷ []) s.xorbs → IsValidXorb x → IsValid (record s { xorbs = xs })
valid_with_new s x xs true valid new more is = rw more (valid_with_xorb s x valid (none (xorb_of s x.hash) (sym new)) is)
  where
    none : (o : Option Xorb) → is_none o ≡ true → o ≡ None
    none None e = refl
    none (Some y) e = absurd (false≢true e)
valid_with_new s x xs false valid new more is = rw more valid
