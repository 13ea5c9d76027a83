-- What a document lists as a raw store, and as a store without empty chunks.
use Rattle.std.proofs.Common.{◌≡◌, ℕ, Bool, true, false, cond, ◌&&◌, List, [], ◌∷◌, refl, sym, ◌∙◌, ap, codes, Option, Some, None, ◌<◌, length, get_or, arith}
use Rattle.std.specs.Prelude.{option_and_then, option_map}
use Rattle.std.specs.List.{list_all}
use Rattle.std.specs.Result.{result_ok}
use Rattle.std.proofs.lemmas.List.Sums.{list_all-from_AllPass}
use Rattle.hex.specs.Hex.{decode_of}
use Rattle.serde_json.specs.Data.{Data, Items, no_items, item, Members, no_members, member}
use Rattle.serde_json.specs.Find.{as_array, as_object, as_str, get}
use Rattle.xet_base.specs.declared.mdb_shard.Xorb.{Xorb}
use Rattle.xet_base.specs.declared.merklehash.MerkleHash.{MerkleHash}
use Rattle.xet_base.specs.declared.stored.StoredFile.{StoredFile}
use Rattle.xet_base.specs.HashText.{hash_of_text}
use Rattle.xet_base.specs.Store.{IsValid, Store}
use Rattle.xet_document.specs.Document as strict
use Rattle.xet_document.specs.Document.{files_of_members}
use Rattle.xet_audit.specs.Raws as raw

-- the value, where it passes
abbrev kept : {A : Type 0} → (A → Bool) → Option A → Option A
kept p o = option_and_then (λ a. cond (p a) (Some a) None) o

-- the chunk isn't empty
abbrev has_bytes : List ℕ → Bool
has_bytes [] = false
has_bytes (b ∷ bs) = true

abbrev have_bytes : List (List ℕ) → Bool
have_bytes cs = list_all has_bytes cs

abbrev are_filled : List Xorb → Bool
are_filled xs = list_all (λ x. have_bytes x.chunks) xs

some_kept : (o : Option (List ℕ)) → option_and_then strict.some_bytes o ≡ kept has_bytes o
some_kept None = refl
some_kept (Some []) = refl
some_kept (Some (b ∷ bs)) = refl

chunk_kept : (d : Data) → strict.chunk_of d ≡ kept has_bytes (raw.chunk_of d)
chunk_kept d = go (as_str d)
  where
    go : (o : Option (List ℕ)) → option_and_then strict.chunk_of_text o ≡ kept has_bytes (option_and_then (λ text. result_ok (decode_of text)) o)
    go None = refl
    go (Some text) = some_kept (result_ok (decode_of text))

list_kept : {A : Type 0} (p : A → Bool) (o : Option A) (r : Option (List A))
    → option_and_then (λ c. option_map (λ cs. c ∷ cs) (kept (list_all p) r)) (kept p o) ≡ kept (list_all p) (option_and_then (λ c. option_map (λ cs. c ∷ cs) r) o)
list_kept p None r = refl
list_kept p (Some c) None = by_test (p c)
  where
    by_test : (b : Bool) → option_and_then (λ d. option_map (λ cs. d ∷ cs) None) (cond b (Some c) None) ≡ None
    by_test true = refl
    by_test false = refl
list_kept p (Some c) (Some cs) = by_tests (p c) (list_all p cs)
  where
    by_tests : (a b : Bool) → option_and_then (λ d. option_map (λ ds. d ∷ ds) (cond b (Some cs) None)) (cond a (Some c) None) ≡ cond (a && b) (Some (c ∷ cs)) None
    by_tests true true = refl
    by_tests true false = refl
    by_tests false b = refl

chunks_kept : (ds : Items) → strict.chunks_of_items ds ≡ kept have_bytes (raw.chunks_of_items ds)
chunks_kept no_items = refl
chunks_kept (item d ds) = rw (chunk_kept d, chunks_kept ds) (list_kept has_bytes (raw.chunk_of d) (raw.chunks_of_items ds))

xorb_kept : (k : List ℕ) (d : Data) → strict.xorb_of_member k d ≡ kept (λ x. have_bytes x.chunks) (raw.xorb_of_member k d)
xorb_kept k d = go (hash_of_text k) (as_array d)
  where
    by_chunks : (h : MerkleHash) (o : Option (List (List ℕ))) → option_map (λ cs. let x : Xorb = record { hash = h; chunks = cs } in x) (kept have_bytes o)
        ≡ kept (λ (x : Xorb). have_bytes x.chunks) (option_map (λ cs. let x : Xorb = record { hash = h; chunks = cs } in x) o)
    by_chunks h None = refl
    by_chunks h (Some cs) = by_test (have_bytes cs)
      where
        by_test : (b : Bool) → option_map (λ cs. let x : Xorb = record { hash = h; chunks = cs } in x) (cond b (Some cs) None) ≡ cond b (Some (let x : Xorb = record { hash = h; chunks = cs } in x)) None
        by_test true = refl
        by_test false = refl

    go : (o : Option MerkleHash) (a : Option Items) → option_and_then (λ h. option_map (λ cs. let x : Xorb = record { hash = h; chunks = cs } in x) (option_and_then strict.chunks_of_items a)) o
        ≡ kept (λ (x : Xorb). have_bytes x.chunks) (option_and_then (λ h. option_map (λ cs. let x : Xorb = record { hash = h; chunks = cs } in x) (option_and_then raw.chunks_of_items a)) o)
    go None a = refl
    go (Some h) None = refl
    go (Some h) (Some ds) = rw (chunks_kept ds) (by_chunks h (raw.chunks_of_items ds))

xorbs_kept : (ms : Members) → strict.xorbs_of_members ms ≡ kept are_filled (raw.xorbs_of_members ms)
xorbs_kept no_members = refl
xorbs_kept (member k d ms) = rw (xorb_kept k d, xorbs_kept ms) (list_kept (λ (x : Xorb). have_bytes x.chunks) (raw.xorb_of_member k d) (raw.xorbs_of_members ms))

store_kept : (d : Data) → strict.listed_store d ≡ kept (λ s. are_filled s.xorbs) (raw.raw_listed d)
store_kept d = go (option_and_then as_object (get (codes "xorbs") d)) (option_and_then files_of_members (option_and_then as_object (get (codes "files") d)))
  where
    by_xorbs : (o : Option (List Xorb)) (f : Option (List StoredFile)) → option_and_then (λ xs. option_map (λ fs. let s : Store = record { xorbs = xs; files = fs } in s) f) (kept are_filled o)
        ≡ kept (λ (s : Store). are_filled s.xorbs) (option_and_then (λ xs. option_map (λ fs. let s : Store = record { xorbs = xs; files = fs } in s) f) o)
    by_xorbs None f = refl
    by_xorbs (Some xs) None = by_test (are_filled xs)
      where
        by_test : (b : Bool) → option_and_then (λ ys. option_map (λ fs. let s : Store = record { xorbs = ys; files = fs } in s) None) (cond b (Some xs) None) ≡ None
        by_test true = refl
        by_test false = refl
    by_xorbs (Some xs) (Some fs) = by_test (are_filled xs)
      where
        by_test : (b : Bool) → option_and_then (λ ys. option_map (λ gs. let s : Store = record { xorbs = ys; files = gs } in s) (Some fs)) (cond b (Some xs) None)
            ≡ cond b (Some (let s : Store = record { xorbs = xs; files = fs } in s)) None
        by_test true = refl
        by_test false = refl

    go : (o : Option Members) (f : Option (List StoredFile)) → option_and_then (λ xs. option_map (λ fs. let s : Store = record { xorbs = xs; files = fs } in s) f) (option_and_then strict.xorbs_of_members o)
        ≡ kept (λ (s : Store). are_filled s.xorbs) (option_and_then (λ xs. option_map (λ fs. let s : Store = record { xorbs = xs; files = fs } in s) f) (option_and_then raw.xorbs_of_members o))
    go None f = refl
    go (Some ms) f = rw (xorbs_kept ms) (by_xorbs (raw.xorbs_of_members ms) f)

-- a store that a document lists is one that it lists as a raw one
pub raw_from_strict : (d : Data) (s : Store) → strict.listed_store d ≡ Some s → raw.raw_listed d ≡ Some s
raw_from_strict d s e = go (raw.raw_listed d) (sym (store_kept d) ∙ e)
  where
    go : (o : Option Store) → kept (λ (t : Store). are_filled t.xorbs) o ≡ Some s → o ≡ Some s
    go None f = absurd cc
    go (Some t) f = by_test (are_filled t.xorbs) f
      where
        by_test : (b : Bool) → cond b (Some t) None ≡ Some s → Some t ≡ Some s
        by_test true g = g
        by_test false g = absurd cc

filled : (s : Store) → IsValid s → are_filled s.xorbs ≡ true
filled s v =
    list_all-from_AllPass (λ (x : Xorb). have_bytes x.chunks) s.xorbs
    (λ k d l. list_all-from_AllPass has_bytes (get_or s.xorbs k d).chunks (λ j e m. some (get_or (get_or s.xorbs k d).chunks j e) ((v.xorbs k d l).nonempty j e m)))
  where
    some : (c : List ℕ) → 0 < length c → has_bytes c ≡ true
    some [] h = absurd (omega arith)
    some (b ∷ bs) h = refl

-- and a valid raw one is one that it lists
pub strict_from_raw : (d : Data) (s : Store) → raw.raw_listed d ≡ Some s → IsValid s → strict.listed_store d ≡ Some s
strict_from_raw d s e v =
    store_kept d ∙ ap (kept (λ (t : Store). are_filled t.xorbs)) e ∙ ap (λ (b : Bool). cond b (Some s) None) (filled s v)
