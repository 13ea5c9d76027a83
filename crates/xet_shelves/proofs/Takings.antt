-- Whether a store takes one xorb or one file.
use Rattle.std.proofs.Common.{◌≡◌, ℕ, ◌+◌, ◌^◌, ◌<◌, Bool, true, false, cond, ◌&&◌, not, List, [], ◌∷◌, ◌++◌, length, map}
use Rattle.std.proofs.Common.{refl, sym, ◌∙◌, ap, arith}
use Rattle.std.specs.Prelude.{◌==◌, Option, Some, None, is_some, nat_le, nat_lt}
use Rattle.std.specs.List.{concat, flat_map, list_all, list_any, sum_by}
use Rattle.std.proofs.lemmas.Bool.{and_from, le-leb, lt-leb, lt-ltb, ne_eqb}
use Rattle.std.proofs.lemmas.List.{length-append}
use Rattle.std.proofs.lemmas.List.Elements.{All-weaker}
use Rattle.std.proofs.lemmas.List.Folds.{concat-append, list_all-map, list_any_none}
use Rattle.std.proofs.lemmas.List.Sums.{list_all-from_AllPass, sum_by-cons}
use Rattle.std.proofs.lemmas.Option.{none-some, same_Some}
use Rattle.xet_base.specs.declared.mdb_shard.FileDataSequenceEntry.{FileDataSequenceEntry}
use Rattle.xet_base.specs.declared.mdb_shard.MDBFileInfo.{MDBFileInfo}
use Rattle.xet_base.specs.declared.mdb_shard.Xorb.{Xorb}
use Rattle.xet_base.specs.declared.stored.StoredTerm.{StoredTerm}
use Rattle.xet_base.specs.Store.{IsTermIn, IsValid, IsValidXorb, Store, chunks_of, chunks_of_term, file_of, xorb_of}
use Rattle.xet_store.specs.declared.mem_store.StoreRefused.{StoreRefused}
use Rattle.xet_store.specs.declared.mem_store.StoreRefused.TheVariants.{OutOfMemory, Taken, EmptyChunk}
use Rattle.xet_store.specs.declared.mem_store.StoreRefused.TheVariants.{TooManyChunks, TooLong, BadTerm}
use Rattle.xet_store.specs.Refusals.{is_term_in, stored_term, term_length, xorb_misfit}
use Rattle.xet_store.proofs.CallerLemmas.{found_short, found_terms}
use Rattle.xet_uploader.specs.StoresAfter.{after_refusal, file_of_record, with_file, with_xorb}
use Rattle.xet_shelves.specs.After.{add_file, add_xorb}

-- ---- what is left of a store after a refusal

-- a store that took something, or had its hash, is the one with it
refused-is : (s more t : Store) (b : Bool) (m : Option StoreRefused) → (m ≡ Some Taken → ⊥)
    → after_refusal s more (cond b (Some Taken) m) ≡ Some t → t ≡ cond b s more
refused-is s more t true m other h = sym (same_Some s t h)
refused-is s more t false None other h = sym (same_Some more t h)
refused-is s more t false (Some Taken) other h = absurd (other refl)
refused-is s more t false (Some OutOfMemory) other h = absurd (none-some t h)
refused-is s more t false (Some EmptyChunk) other h = absurd (none-some t h)
refused-is s more t false (Some TooManyChunks) other h = absurd (none-some t h)
refused-is s more t false (Some TooLong) other h = absurd (none-some t h)
refused-is s more t false (Some BadTerm) other h = absurd (none-some t h)

-- and where nothing else refuses it, it did
accepted-is : (s more : Store) (b : Bool) (m : Option StoreRefused) → (b ≡ false → m ≡ None)
    → after_refusal s more (cond b (Some Taken) m) ≡ Some (cond b s more)
accepted-is s more true m fits = refl
accepted-is s more false m fits = ap (after_refusal s more) (fits refl)

-- ---- one xorb

not-taken : (a b c : Bool)
    → cond a (Some EmptyChunk) (cond b (Some TooManyChunks) (cond c (Some TooLong) None)) ≡ Some Taken → ⊥
not-taken true b c h = let f : EmptyChunk ≡ Taken = same_Some EmptyChunk Taken h in cc
not-taken false true c h = let f : TooManyChunks ≡ Taken = same_Some TooManyChunks Taken h in cc
not-taken false false true h = let f : TooLong ≡ Taken = same_Some TooLong Taken h in cc
not-taken false false false h = none-some Taken h

pub with_xorb-is : (s t : Store) (x : Xorb) → with_xorb s x ≡ Some t → t ≡ add_xorb s x
with_xorb-is s t x h =
    refused-is s (record s { xorbs = s.xorbs ++ x ∷ [] }) t (is_some (xorb_of s x.hash)) (xorb_misfit x)
    (not-taken (list_any (λ c. length c == 0) x.chunks) (nat_le (2 ^ 32) (length x.chunks))
    (nat_le (2 ^ 32) (length (concat x.chunks)))) h

-- a valid xorb is no misfit
fits-valid : (x : Xorb) → IsValidXorb x → xorb_misfit x ≡ None
fits-valid x v =
    let some : list_any (λ c. length c == 0) x.chunks ≡ false =
    list_any_none (λ c. length c == 0) x.chunks
    (All-weaker (λ c. 0 < length c) (λ c. (length c == 0) ≡ false)
    (λ c h. ne_eqb (length c) 0 (λ e. absurd (omega (arith, h, e)))) x.chunks v.nonempty) in
    let few : nat_le (2 ^ 32) (length x.chunks) ≡ false = lt-leb (2 ^ 32) (length x.chunks) v.chunk_count in
    let short : nat_le (2 ^ 32) (length (concat x.chunks)) ≡ false =
    lt-leb (2 ^ 32) (length (concat x.chunks)) v.byte_count in
    go _ _ _ some few short
  where
    go : (a b c : Bool) → a ≡ false → b ≡ false → c ≡ false
        → cond a (Some EmptyChunk) (cond b (Some TooManyChunks) (cond c (Some TooLong) None)) ≡ None
    go a b c e f g =
        ap (λ (z : Bool). cond z (Some EmptyChunk) (cond b (Some TooManyChunks) (cond c (Some TooLong) None))) e
        ∙ ap (λ (z : Bool). cond z (Some TooManyChunks) (cond c (Some TooLong) None)) f
        ∙ ap (λ (z : Bool). cond z (Some TooLong) None) g

pub with_xorb-fits : (s : Store) (x : Xorb) → (is_some (xorb_of s x.hash) ≡ false → IsValidXorb x)
    → with_xorb s x ≡ Some (add_xorb s x)
with_xorb-fits s x valid =
    accepted-is s (record s { xorbs = s.xorbs ++ x ∷ [] }) (is_some (xorb_of s x.hash)) (xorb_misfit x)
    (λ new. fits-valid x (valid new))

-- ---- one file

not-taken-file : (a b : Bool) → cond a (Some BadTerm) (cond b (Some TooLong) None) ≡ Some Taken → ⊥
not-taken-file true b h = let f : BadTerm ≡ Taken = same_Some BadTerm Taken h in cc
not-taken-file false true h = let f : TooLong ≡ Taken = same_Some TooLong Taken h in cc
not-taken-file false false h = none-some Taken h

-- why a store refuses a file whose hash is new
abbrev terms_misfit : Store → List FileDataSequenceEntry → Option StoreRefused
terms_misfit s ts =
    cond (not (list_all (λ t. is_term_in s (stored_term t)) ts)) (Some BadTerm)
    (cond (nat_le (2 ^ 64) (sum_by (λ t. term_length s (stored_term t)) ts)) (Some TooLong) None)

pub with_file-is : (s t : Store) (f : MDBFileInfo) → with_file s f ≡ Some t → t ≡ add_file s f
with_file-is s t f h =
    refused-is s (record s { files = s.files ++ file_of_record f ∷ [] }) t (is_some (file_of s f.hash))
    (terms_misfit s f.entries)
    (not-taken-file (not (list_all (λ t. is_term_in s (stored_term t)) f.entries))
    (nat_le (2 ^ 64) (sum_by (λ t. term_length s (stored_term t)) f.entries))) h

-- the lengths of terms add up to that of their bytes
length-terms : (s : Store) (ts : List StoredTerm)
    → length (concat (flat_map (chunks_of_term s) ts)) ≡ sum_by (term_length s) ts
length-terms s [] = refl
length-terms s (t ∷ ts) =
    let here = chunks_of_term s t in
    let rest = flat_map (chunks_of_term s) ts in
    omega (
      arith,
      ap length (concat-append here rest),
      length-append (concat here) (concat rest),
      length-terms s ts,
      sum_by-cons (term_length s) t ts,
    )

sum_by_map : {X Y : Type 0} (n : Y → ℕ) (f : X → Y) (xs : List X) → sum_by n (map f xs) ≡ sum_by (λ x. n (f x)) xs
sum_by_map n f [] = refl
sum_by_map n f (x ∷ xs) =
    sum_by-cons n (f x) (map f xs) ∙ ap (λ (k : ℕ). n (f x) + k) (sum_by_map n f xs)
    ∙ sym (sum_by-cons (λ x. n (f x)) x xs)

test-of : (s : Store) (t : StoredTerm) → IsTermIn s t → is_term_in s t ≡ true
test-of s t i =
    and_from (nat_lt t.from t.to && is_some (xorb_of s t.xorb)) (nat_le t.to (length (chunks_of s t.xorb)))
    (and_from (nat_lt t.from t.to) (is_some (xorb_of s t.xorb)) (lt-ltb t.from t.to i.some) i.stored)
    (le-leb t.to (length (chunks_of s t.xorb)) i.inside)

-- the terms of a file of a valid store, in a store with the same xorbs
module _ (v : Store) (valid : IsValid v) (f : MDBFileInfo) (found : file_of v f.hash ≡ Some (file_of_record f)) where
  abbrev terms : List StoredTerm
  terms = map stored_term f.entries

  all_in : list_all (is_term_in v) terms ≡ true
  all_in =
      list_all-from_AllPass (is_term_in v) terms
      (All-weaker (IsTermIn v) (λ t. is_term_in v t ≡ true) (test-of v) terms
      (found_terms v valid f.hash (file_of_record f) terms (sym found) refl))

  short : sum_by (term_length v) terms < 2 ^ 64
  short =
      let h = found_short v valid f.hash (file_of_record f) terms (sym found) refl in
      let e = length-terms v terms in
      omega (arith, h, e)

  fits-here : terms_misfit v f.entries ≡ None
  fits-here =
      let good : list_all (λ t. is_term_in v (stored_term t)) f.entries ≡ true =
      sym (list_all-map (is_term_in v) stored_term f.entries) ∙ all_in in
      let same = sum_by_map (term_length v) stored_term f.entries in
      let few : nat_le (2 ^ 64) (sum_by (λ t. term_length v (stored_term t)) f.entries) ≡ false =
      lt-leb (2 ^ 64) (sum_by (λ t. term_length v (stored_term t)) f.entries) (omega (arith, short, same)) in
      ap (λ (b : Bool). cond (not b) (Some BadTerm)
      (cond (nat_le (2 ^ 64) (sum_by (λ t. term_length v (stored_term t)) f.entries)) (Some TooLong) None)) good
      ∙ ap (λ (b : Bool). cond b (Some TooLong) None) few

  fits-same : (s : Store) → v.xorbs ≡ s.xorbs → terms_misfit s f.entries ≡ None
  fits-same s e =
      sym (ap (λ (xs : List Xorb). terms_misfit (record { xorbs = xs; files = s.files }) f.entries) e) ∙ fits-here

-- a file that a valid store with the same xorbs has is taken
pub with_file-fits : (s v : Store) (f : MDBFileInfo) → IsValid v → v.xorbs ≡ s.xorbs
    → (is_some (file_of s f.hash) ≡ false → file_of v f.hash ≡ Some (file_of_record f))
    → with_file s f ≡ Some (add_file s f)
with_file-fits s v f valid same found =
    accepted-is s (record s { files = s.files ++ file_of_record f ∷ [] }) (is_some (file_of s f.hash))
    (terms_misfit s f.entries) (λ new. fits-same v valid f (found new) s same)
