-- The store after a log that grows: a xorb of nonempty chunks and a record that stands are no misfits.
use Rattle.std.proofs.Common.{◌≡◌, ℕ, ◌+◌, ◌<◌, ◌≤◌, ◌^◌, Bool, true, false, cond, List, [], ◌∷◌, ◌++◌, length, map, refl, sym, ◌∙◌, ap, subst, arith}
use Rattle.std.specs.Prelude.{All, Option, Some, None, IsSome, ◌==◌, find, is_some, not, nat_le, option_and_then, option_map, unwrap_or}
use Rattle.std.specs.List.{concat, flat_map, list_all, list_any, slice_range, sum_by}
use Rattle.std.proofs.lemmas.Bool.{and_from, le-leb, lt-leb, lt-ltb, ne_eqb}
use Rattle.std.proofs.lemmas.List.{length-append}
use Rattle.std.proofs.lemmas.Option.{none-some}
use Rattle.std.proofs.lemmas.List.Elements.{All-cons, All-head, All-nil, All-tail, All-weaker}
use Rattle.std.proofs.lemmas.List.Folds.{concat-append, find-append, list_any_none}
use Rattle.std.proofs.lemmas.List.Sums.{sum_by-cons}
use Rattle.xet_base.specs.declared.merklehash.MerkleHash.{MerkleHash}
use Rattle.xet_base.specs.declared.mdb_shard.FileDataSequenceEntry.{FileDataSequenceEntry}
use Rattle.xet_base.specs.declared.mdb_shard.MDBFileInfo.{MDBFileInfo}
use Rattle.xet_base.specs.declared.mdb_shard.ShardRecord.{ShardRecord}
use Rattle.xet_base.specs.declared.mdb_shard.Xorb.{Xorb}
use Rattle.xet_base.specs.declared.stored.StoredFile.{StoredFile}
use Rattle.xet_base.specs.declared.stored.StoredTerm.{StoredTerm}
use Rattle.xet_base.specs.Hashes.{hash_eq}
use Rattle.xet_base.specs.Store.{IsTermIn, IsValid, IsValidXorb, Store, chunks_of_term, file_of, xorb_of}
use Rattle.xet_store.specs.declared.mem_store.StoreRefused.{StoreRefused}
use Rattle.xet_store.specs.declared.mem_store.StoreRefused.TheVariants.{BadTerm, EmptyChunk, Taken, TooLong, TooManyChunks}
use Rattle.xet_store.specs.Refusals.{is_term_in, stored_term, term_length, xorb_misfit}
use Rattle.xet_store.proofs.CallerLemmas.{valid_with_file, valid_with_xorb}
use Rattle.xet_uploader.specs.declared.uploader.Put.{Put}
use Rattle.xet_uploader.specs.declared.uploader.Put.TheVariants as put
use Rattle.xet_uploader.specs.StoresAfter.{after_refusal, file_of_record, files_in, store_after, with_file, with_files, with_put, with_xorb}
use Rattle.xet_uploader.specs.Uploads.{xorbs_in}
use Rattle.xet_uploader.proofs.CallerLemmas.{after_finds_xorbs}
use Rattle.xet_shard_interface.proofs.CallerLemmas.{All-append_left, All-append_right}
use Rattle.xet_upload.specs.Standing.{IsTerm, chunks_at, term_of, world}
use Rattle.xet_upload_laws.specs.RecordsStand.{AreRecords, IsRecord}
use Rattle.xet_upload_laws.specs.StoreAfter.{StoreAfterShards, StoreAfterXorbs}

-- a valid store that is an answer
record IsAfter (o : Option Store) : Type 0 where
  store : Store
  is : o ≡ Some store
  valid : IsValid store

-- ---- a xorb

no-misfit : (a b c : Bool) → a ≡ false → b ≡ false → c ≡ false
    → cond a (Some EmptyChunk) (cond b (Some TooManyChunks) (cond c (Some TooLong) None)) ≡ None
no-misfit a b c e f g = rw (e, f, g) refl

misfit-none : (x : Xorb) → IsValidXorb x → xorb_misfit x ≡ None
misfit-none x g =
    let some = list_any_none (λ (c : List ℕ). length c == 0) x.chunks (All-weaker (λ (c : List ℕ). 0 < length c)
    (λ (c : List ℕ). (length c == 0) ≡ false) (λ c h. ne_eqb (length c) 0 (λ e. omega arith)) x.chunks g.nonempty) in
    no-misfit (list_any (λ (c : List ℕ). length c == 0) x.chunks) (nat_le (2 ^ 32) (length x.chunks))
    (nat_le (2 ^ 32) (length (concat x.chunks))) some (lt-leb (2 ^ 32) (length x.chunks) g.chunk_count)
    (lt-leb (2 ^ 32) (length (concat x.chunks)) g.byte_count)

xorb-after : (s : Store) (x : Xorb) → IsValid s → IsValidXorb x → IsAfter (with_xorb s x)
xorb-after s x v g = go (xorb_of s x.hash) refl
  where
    grown : Store
    grown = record s { xorbs = s.xorbs ++ x ∷ [] }

    refused : Option Xorb → Option StoreRefused
    refused o = cond (is_some o) (Some Taken) (xorb_misfit x)

    go : (o : Option Xorb) → xorb_of s x.hash ≡ o → IsAfter (with_xorb s x)
    go (Some y) e = record {
      store = s;
      is = ap (λ (p : Option Xorb). after_refusal s grown (refused p)) e;
      valid = v;
    }
    go None e = record {
      store = grown;
      is = ap (λ (p : Option Xorb). after_refusal s grown (refused p)) e ∙ ap (after_refusal s grown) (misfit-none x g);
      valid = valid_with_xorb s x v e g;
    }

xorbs-after : (xs : List Xorb) (s : Store) → IsValid s → All IsValidXorb xs → IsAfter (store_after s (map put.Xorb xs))
xorbs-after [] s v a = record { store = s; is = refl; valid = v }
xorbs-after (x ∷ xs) s v a =
    let one = xorb-after s x v (All-head IsValidXorb x xs a) in
    let rest = xorbs-after xs one.store one.valid (All-tail IsValidXorb x xs a) in
    record {
      store = rest.store;
      is = ap (option_and_then (λ (t : Store). store_after t (map put.Xorb xs))) one.is ∙ rest.is;
      valid = rest.valid;
    }

-- ---- a file

-- one store finds the xorbs of another
abbrev FindsAs : Store → Store → Type 0
FindsAs s w = (h : MerkleHash) → xorb_of s h ≡ xorb_of w h

module _ (w s : Store) (same : FindsAs s w) where
  term-in : (e : FileDataSequenceEntry) → IsTerm w [] (term_of e) → IsTermIn s (stored_term e)
  term-in e t = record {
    some = t.some;
    stored = subst (λ (o : Option Xorb). IsSome o) (sym (same e.xorb)) t.stored;
    inside = subst (λ (o : Option Xorb). e.to ≤ length (unwrap_or (option_map (λ (x : Xorb). x.chunks) o) []))
        (sym (same e.xorb)) t.inside;
  }

  term-chunks : (e : FileDataSequenceEntry) → chunks_of_term s (stored_term e) ≡ chunks_at w [] (term_of e)
  term-chunks e = ap (λ (o : Option Xorb). slice_range (unwrap_or (option_map (λ (x : Xorb). x.chunks) o) []) e.from e.to)
      (same e.xorb)

  terms-in : (es : List FileDataSequenceEntry) → All (IsTerm w []) (map term_of es)
      → All (IsTermIn s) (map stored_term es)
  terms-in [] a = All-nil (IsTermIn s)
  terms-in (e ∷ es) a = All-cons (IsTermIn s) (stored_term e) (map stored_term es)
      (term-in e (All-head (IsTerm w []) (term_of e) (map term_of es) a))
      (terms-in es (All-tail (IsTerm w []) (term_of e) (map term_of es) a))

  terms-chunks : (es : List FileDataSequenceEntry)
      → flat_map (chunks_of_term s) (map stored_term es) ≡ flat_map (chunks_at w []) (map term_of es)
  terms-chunks [] = refl
  terms-chunks (e ∷ es) =
      ap (λ (cs : List (List ℕ)). cs ++ flat_map (chunks_of_term s) (map stored_term es)) (term-chunks e)
      ∙ ap (λ (cs : List (List ℕ)). chunks_at w [] (term_of e) ++ cs) (terms-chunks es)

-- the lengths of terms add up to that of their bytes
length-terms : (s : Store) (ts : List StoredTerm)
    → length (concat (flat_map (chunks_of_term s) ts)) ≡ sum_by (term_length s) ts
length-terms s [] = refl
length-terms s (t ∷ ts) =
    let here = chunks_of_term s t in
    let rest = flat_map (chunks_of_term s) ts in
    omega (
      arith,
      ap length (concat-append here rest),
      length-append (concat here) (concat rest),
      length-terms s ts,
      sum_by-cons (term_length s) t ts,
    )

-- a sum over terms of records
sum-stored : (s : Store) (es : List FileDataSequenceEntry)
    → sum_by (term_length s) (map stored_term es) ≡ sum_by (λ (e : FileDataSequenceEntry). term_length s (stored_term e)) es
sum-stored s [] = refl
sum-stored s (e ∷ es) =
    sum_by-cons (term_length s) (stored_term e) (map stored_term es)
    ∙ ap (λ (n : ℕ). term_length s (stored_term e) + n) (sum-stored s es)
    ∙ sym (sum_by-cons (λ (e : FileDataSequenceEntry). term_length s (stored_term e)) e es)

-- the test finds the term
term-test : (s : Store) (t : StoredTerm) → IsTermIn s t → is_term_in s t ≡ true
term-test s t i = and_from _ _ (and_from _ _ (lt-ltb t.from t.to i.some) i.stored) (le-leb t.to _ i.inside)

terms-test : (s : Store) (es : List FileDataSequenceEntry) → All (IsTermIn s) (map stored_term es)
    → list_all (λ (e : FileDataSequenceEntry). is_term_in s (stored_term e)) es ≡ true
terms-test s [] a = refl
terms-test s (e ∷ es) a = and_from _ _
    (term-test s (stored_term e) (All-head (IsTermIn s) (stored_term e) (map stored_term es) a))
    (terms-test s es (All-tail (IsTermIn s) (stored_term e) (map stored_term es) a))

no-refusal : (a b : Bool) → a ≡ true → b ≡ false
    → cond (not a) (Some BadTerm) (cond b (Some TooLong) None) ≡ None
no-refusal a b e f = rw (e, f) refl

-- what a file leaves: the store finds the same xorbs
record IsAfterFile (s : Store) (o : Option Store) : Type 0 where
  store : Store
  is : o ≡ Some store
  valid : IsValid store
  xorbs : store.xorbs ≡ s.xorbs

module _ (w s : Store) (same : FindsAs s w) (v : IsValid s) (f : MDBFileInfo) (r : IsRecord w f) where
  inside : All (IsTermIn s) (map stored_term f.entries)
  inside = terms-in w s same f.entries r.stand.each

  bytes : sum_by (term_length s) (map stored_term f.entries) ≡ length (concat r.chunks)
  bytes = sym (length-terms s (map stored_term f.entries))
      ∙ ap (λ (cs : List (List ℕ)). length (concat cs)) (terms-chunks w s same f.entries ∙ r.stand.joined)

  short : sum_by (term_length s) (map stored_term f.entries) < 2 ^ 64
  short = let e = bytes in let q = r.short in omega arith

  abbrev refused : Option StoredFile → Option StoreRefused
  refused o = cond (is_some o) (Some Taken) (cond (not (list_all (λ (e : FileDataSequenceEntry). is_term_in s
      (stored_term e)) f.entries)) (Some BadTerm) (cond (nat_le (2 ^ 64) (sum_by
      (λ (e : FileDataSequenceEntry). term_length s (stored_term e)) f.entries)) (Some TooLong) None))

  fits : refused None ≡ None
  fits =
      let e = sum-stored s f.entries in
      let q = short in
      let size : sum_by (λ (e : FileDataSequenceEntry). term_length s (stored_term e)) f.entries < 2 ^ 64 = omega arith in
      no-refusal (list_all (λ (e : FileDataSequenceEntry). is_term_in s (stored_term e)) f.entries) (nat_le (2 ^ 64)
      (sum_by (λ (e : FileDataSequenceEntry). term_length s (stored_term e)) f.entries))
      (terms-test s f.entries inside)
      (lt-leb (2 ^ 64) (sum_by (λ (e : FileDataSequenceEntry). term_length s (stored_term e)) f.entries) size)

  file-after : IsAfterFile s (with_file s f)
  file-after = go (file_of s f.hash) refl
    where
      grown : Store
      grown = record s { files = s.files ++ file_of_record f ∷ [] }

      go : (o : Option StoredFile) → file_of s f.hash ≡ o → IsAfterFile s (with_file s f)
      go (Some y) e = record {
        store = s;
        is = ap (λ (p : Option StoredFile). after_refusal s grown (refused p)) e;
        valid = v;
        xorbs = refl;
      }
      go None e = record {
        store = grown;
        is = ap (λ (p : Option StoredFile). after_refusal s grown (refused p)) e ∙ ap (after_refusal s grown) fits;
        valid = valid_with_file s (file_of_record f) v e inside short;
        xorbs = refl;
      }

-- a store with the same xorbs finds the same
finds-still : (w s t : Store) → t.xorbs ≡ s.xorbs → FindsAs s w → FindsAs t w
finds-still w s t e same h = ap (λ (xs : List Xorb). find (λ (x : Xorb). hash_eq x.hash h) xs) e ∙ same h

files-after : (fs : List MDBFileInfo) (w s : Store) → FindsAs s w → IsValid s → AreRecords w fs
    → IsAfterFile s (with_files s fs)
files-after [] w s same v a = record { store = s; is = refl; valid = v; xorbs = refl }
files-after (f ∷ fs) w s same v a =
    let one = file-after w s same v f (All-head (IsRecord w) f fs a) in
    let rest = files-after fs w one.store (finds-still w s one.store one.xorbs same) one.valid
    (All-tail (IsRecord w) f fs a) in
    record {
      store = rest.store;
      is = ap (option_and_then (λ (t : Store). with_files t fs)) one.is ∙ rest.is;
      valid = rest.valid;
      xorbs = rest.xorbs ∙ one.xorbs;
    }

shards-after : (ss : List ShardRecord) (w s : Store) → FindsAs s w → IsValid s
    → AreRecords w (files_in (map put.Shard ss)) → IsAfter (store_after s (map put.Shard ss))
shards-after [] w s same v a = record { store = s; is = refl; valid = v }
shards-after (r ∷ ss) w s same v a =
    let more = files_in (map put.Shard ss) in
    let one = files-after r.files w s same v (All-append_left (IsRecord w) r.files more a) in
    let rest = shards-after ss w one.store (finds-still w s one.store one.xorbs same) one.valid
    (All-append_right (IsRecord w) r.files more a) in
    record {
      store = rest.store;
      is = ap (option_and_then (λ (t : Store). store_after t (map put.Shard ss))) one.is ∙ rest.is;
      valid = rest.valid;
    }

-- ---- a log

after-both : (log more : List Put) (k s : Store) → store_after k log ≡ Some s
    → store_after k (log ++ more) ≡ store_after s more
after-both [] more k s e = ap (λ (o : Option Store). option_and_then (λ (t : Store). store_after t more) o) e
after-both (p ∷ ps) more k s e = go (with_put k p) e (λ t. after-both ps more t s)
  where
    go : (o : Option Store) → option_and_then (λ (t : Store). store_after t ps) o ≡ Some s
        → ((t : Store) → store_after t ps ≡ Some s → store_after t (ps ++ more) ≡ store_after s more)
        → option_and_then (λ (t : Store). store_after t (ps ++ more)) o ≡ store_after s more
    go None q next = absurd (none-some s q)
    go (Some t) q next = next t q

-- the store after a log finds the xorbs of the world
pub finds-world : (k s : Store) (log : List Put) → store_after k log ≡ Some s → FindsAs s (world k log)
finds-world k s log e h = after_finds_xorbs k s log h e
    ∙ sym (find-append (λ (x : Xorb). hash_eq x.hash h) k.xorbs (xorbs_in log))

pub store-xorbs : StoreAfterXorbs
store-xorbs k log xs h a =
    let rest = xorbs-after xs h.store h.valid a in
    record {
      store = rest.store;
      after = after-both log (map put.Xorb xs) k h.store h.after ∙ rest.is;
      valid = rest.valid;
    }

pub store-shards : StoreAfterShards
store-shards k log ss h a =
    let rest = shards-after ss (world k log) h.store (finds-world k h.store log h.after) h.valid a in
    record {
      store = rest.store;
      after = after-both log (map put.Shard ss) k h.store h.after ∙ rest.is;
      valid = rest.valid;
    }
