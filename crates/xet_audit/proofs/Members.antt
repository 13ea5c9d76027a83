-- Values that are listed one after another.
use Rattle.std.proofs.Common.{◌≡◌, ℕ, ◌+◌, ◌%◌, ◌<◌, ◌≤◌, Bool, true, false, List, [], ◌∷◌, ◌++◌, length, drop, get_or, refl, sym, ◌∙◌, ap, codes, append_assoc, append-nil, Option, Some, None}
use Rattle.std.specs.Prelude.{MatchOption, Result, Ok, Err, IfOk, option_and_then, option_map}
use Rattle.std.specs.Result.{result_ok}
use Rattle.std.proofs.lemmas.Bool.{false≢true}
use Rattle.std.proofs.lemmas.List.{drop_all, drop_more}
use Rattle.hex.specs.Hex.{decode_of}
use Rattle.hex.proofs.HexLemmas.{decode_of-odd}
use Rattle.serde_json.specs.Data.{Data, Members}
use Rattle.serde_json.specs.Find.{as_object, get}
use Rattle.serde_json.specs.View.{items_view, view}
use Rattle.serde_json.specs.Written.{has_float}
use Rattle.serde_json.specs.declared.value.Value.{Value}
use Rattle.xet_base.specs.declared.mdb_shard.Xorb.{Xorb}
use Rattle.xet_base.specs.declared.stored.StoredFile.{StoredFile}
use Rattle.xet_base.specs.Store.{Store}
use Rattle.xet_audit.specs.declared.raw_store.RawStore.{RawStore}
use Rattle.xet_audit.specs.Raws.{Lists, ListsNone, chunk_of, chunks_of_items, raw_listed, store_of_raw, xorbs_of_members}
use Rattle.xet_audit.specs.steps.Listed.{store_of_members}

-- ---- the values so far and those that are left

-- what all come to, by those so far and those that are left
abbrev pub with_rest : {A : Type 0} → List A → Option (List A) → Option (List A)
with_rest front rest = option_map (λ xs. front ++ xs) rest

-- one value before the others
abbrev pub with_first : {A : Type 0} → Option A → Option (List A) → Option (List A)
with_first o rest = option_and_then (λ x. option_map (λ xs. x ∷ xs) rest) o

pub rest_start : {A : Type 0} (front : List A) (rest : Option (List A)) → front ≡ [] → rest ≡ with_rest front rest
rest_start front None e = refl
rest_start front (Some xs) e = rw e refl

pub rest_more : {A : Type 0} (whole : Option (List A)) (front now : List A) (o : Option A) (rest : Option (List A)) (x : A) → whole ≡ with_rest front (with_first o rest)
    → o ≡ Some x → now ≡ front ++ x ∷ [] → whole ≡ with_rest now rest
rest_more {A} whole front now o rest x left is push =
    left ∙ ap (λ (p : Option A). with_rest front (with_first p rest)) is ∙ joined rest ∙ ap (λ (xs : List A). with_rest xs rest) (sym push)
  where
    joined : (r : Option (List A)) → with_rest front (option_map (λ xs. x ∷ xs) r) ≡ with_rest (front ++ x ∷ []) r
    joined None = refl
    joined (Some xs) = ap Some (sym (append_assoc front (x ∷ []) xs))

pub rest_stops : {A : Type 0} (whole : Option (List A)) (front : List A) (o : Option A) (rest : Option (List A)) → whole ≡ with_rest front (with_first o rest) → o ≡ None → whole ≡ None
rest_stops {A} whole front o rest left none = left ∙ ap (λ (p : Option A). with_rest front (with_first p rest)) none

pub rest_ends : {A : Type 0} (whole : Option (List A)) (front : List A) (rest : Option (List A)) → whole ≡ with_rest front rest → rest ≡ Some [] → whole ≡ Some front
rest_ends {A} whole front rest left none = left ∙ ap (with_rest front) none ∙ ap Some (append-nil front)

-- the items that are left, from the next on
pub items_next : (vs : List Value) (i : ℕ) (v : Value) → i < length vs → v ≡ get_or vs i v
    → chunks_of_items (items_view (drop i vs)) ≡ with_first (chunk_of (view v)) (chunks_of_items (items_view (drop (i + 1) vs)))
items_next vs i v h is =
    ap (λ (xs : List Value). chunks_of_items (items_view xs)) (drop_more vs i v h ∙ ap (λ (x : Value). x ∷ drop (i + 1) vs) (sym is))

pub items_end : (vs : List Value) (i : ℕ) → length vs ≤ i → chunks_of_items (items_view (drop i vs)) ≡ Some []
items_end vs i h = ap (λ (xs : List Value). chunks_of_items (items_view xs)) (drop_all i vs h)

-- ---- one chunk

pub not_decoded : (text : List ℕ) → length text % 2 ≡ 1 → None ≡ result_ok (decode_of text)
not_decoded text odd = sym (rw (decode_of-odd text odd) refl)

-- what a pass over the digits says
pub decoded_none : (o : Option (List ℕ)) (r : Bool) (bytes : List ℕ) → MatchOption o (r ≡ false) (λ found. (r ≡ true) × (bytes ≡ found)) → r ≡ false → None ≡ o
decoded_none None r bytes h e = refl
decoded_none (Some found) r bytes h e = absurd (false≢true (sym e ∙ h.0))

pub decoded_some : (o : Option (List ℕ)) (r : Bool) (bytes : List ℕ) → MatchOption o (r ≡ false) (λ found. (r ≡ true) × (bytes ≡ found)) → r ≡ true → Some bytes ≡ o
decoded_some None r bytes h e = absurd (false≢true (sym h ∙ e))
decoded_some (Some found) r bytes h e = ap Some h.1

-- ---- the whole

module _ (d : Data) (ms ns : Members) (are : Some ms ≡ option_and_then as_object (get (codes "xorbs") d)) (also : Some ns ≡ option_and_then as_object (get (codes "files") d)) where
  listed_is : raw_listed d ≡ store_of_members ms ns
  listed_is = rw (← are, ← also) refl

  pub raw_is : (o : Option RawStore) → has_float d ≡ false → option_map store_of_raw o ≡ store_of_members ms ns → MatchOption o (ListsNone d) (λ raw. Lists d (store_of_raw raw))
  raw_is None free e = λ s lists. let none : None ≡ Some s = e ∙ sym listed_is ∙ lists.listed in cc
  raw_is (Some raw) free e = record { listed = listed_is ∙ sym e; no_float = free }

-- a float, or a missing object
pub float_lists_none : (d : Data) → has_float d ≡ true → ListsNone d
float_lists_none d e s lists = false≢true (sym lists.no_float ∙ e)

pub no_xorbs_list : (d : Data) → option_and_then as_object (get (codes "xorbs") d) ≡ None → ListsNone d
no_xorbs_list d e s lists = nothing (rw e at lists.listed)
  where
    nothing : None ≡ Some s → ⊥
    nothing f = cc

pub no_files_list : (d : Data) → option_and_then as_object (get (codes "files") d) ≡ None → ListsNone d
no_files_list d e s lists = nothing (option_and_then xorbs_of_members (option_and_then as_object (get (codes "xorbs") d))) (rw e at lists.listed)
  where
    nothing : (o : Option (List Xorb)) → option_and_then (λ (xs : List Xorb). let p : Option Store = None in p) o ≡ Some s → ⊥
    nothing None f = cc
    nothing (Some xs) f = cc

-- the store of both, or of one that is none
pub both_listed : (xs : Option (List Xorb)) (fs : Option (List StoredFile)) (xorbs : List Xorb) (files : List StoredFile) → Some xorbs ≡ xs → Some files ≡ fs
    → Some (let s : Store = record { xorbs = xorbs; files = files } in s) ≡ option_and_then (λ ys. option_map (λ gs. let s : Store = record { xorbs = ys; files = gs } in s) fs) xs
both_listed xs fs xorbs files e f = rw (← e, ← f) refl

-- the answer of a call that reads both objects
pub of_members : {E : Type 0} (d : Data) (ms ns : Members) → Some ms ≡ option_and_then as_object (get (codes "xorbs") d) → Some ns ≡ option_and_then as_object (get (codes "files") d)
    → (r : Result (Option RawStore) E) → has_float d ≡ false → IfOk r (λ o. option_map store_of_raw o ≡ store_of_members ms ns)
    → IfOk r (λ o. MatchOption o (ListsNone d) (λ raw. Lists d (store_of_raw raw)))
of_members d ms ns are also (Err e) free h = tt
of_members d ms ns are also (Ok o) free h = raw_is d ms ns are also o free h
