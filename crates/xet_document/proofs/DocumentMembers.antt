-- One member of a document more.
use Rattle.std.proofs.Common.{◌≡◌, ℕ, Bool, false, true, map, List, [], ◌∷◌, refl, sym, ◌∙◌, ap, subst, inl, inr, append_assoc}
use Rattle.std.specs.Prelude.{Option, Some, None, Result, Ok, Err, IfErr, IfOk, MatchOption, ◌⊎◌, codes, option_map, option_and_then}
use Rattle.serde_json.specs.Data.{Data, Members, member}
use Rattle.serde_json.specs.Find.{as_array, as_object, get}
use Rattle.serde_json.specs.Written.{has_float}
use Rattle.xet_base.specs.HashText.{hash_of_text}
use Rattle.xet_base.specs.declared.stored.StoredFile.{StoredFile}
use Rattle.xet_base.specs.declared.mdb_shard.Xorb.{Xorb}
use Rattle.xet_base.specs.declared.merklehash.MerkleHash.{MerkleHash}
use Rattle.xet_base.specs.declared.mdb_shard.FileDataSequenceEntry.{FileDataSequenceEntry}
use Rattle.xet_base.specs.declared.stored.StoredTerm.{StoredTerm}
use Rattle.xet_base.specs.Store.{Store, IsValid}
use Rattle.xet_store.specs.declared.mem_store.StoreRefused.{StoreRefused}
use Rattle.xet_store.specs.declared.mem_store.StoreRefused.TheVariants.{OutOfMemory}
use Rattle.xet_store.specs.Refusals.{xorb_refusal, file_refusal, stored_term}
use Rattle.xet_document.specs.steps.AddedMembers.{with_xorbs, with_files, with_xorbs_of, with_files_of, no_store, AddsBoth, AddsXorbs, AddsFiles, IsStoreOf}
use Rattle.xet_document.specs.Document.{IsDocumentOf, IsNoDocument, listed_store, terms_of_items, xorb_of_member, xorbs_of_members, file_of_member, files_of_members}
use Rattle.xet_document.proofs.StoreRefusals.{xorb_fits, file_fits}

-- what is not added is refused for another reason than want of memory
pub why_refused : (r : Result Unit StoreRefused) (o : Option StoreRefused) → IfErr r (λ e. (e ≡ OutOfMemory) ⊎ (o ≡ Some e)) → (x : StoreRefused) × (r ≡ Err x) × (x ≡ OutOfMemory → ⊥) → (e : StoreRefused) × (o ≡ Some e)
why_refused (Ok u) o h w = let e = w.1 in cc
why_refused (Err x) o (inl e) w =
    let same : x ≡ w.0 = let f = w.1 in cc in
    absurd (w.2 (sym same ∙ e))
why_refused (Err x) o (inr e) w = (x, e)

-- ---- xorbs

module _ (s t : Store) (all : Members) (k : List ℕ) (d : Data) (ms : Members) (x : Xorb) (left : with_xorbs_of s all ≡ with_xorbs_of t (member k d ms)) (is : xorb_of_member k d ≡ Some x) where
  xorb_first : with_xorbs_of s all ≡ option_map (λ xs. with_xorbs t (x ∷ xs)) (xorbs_of_members ms)
  xorb_first = left ∙ ap (λ (o : Option Xorb). option_map (with_xorbs t) (option_and_then (λ y. option_map (λ xs. y ∷ xs) (xorbs_of_members ms)) o)) is ∙ joined (xorbs_of_members ms)
    where
      joined : (o : Option (List Xorb)) → option_map (with_xorbs t) (option_map (λ xs. x ∷ xs) o) ≡ option_map (λ xs. with_xorbs t (x ∷ xs)) o
      joined None = refl
      joined (Some xs) = refl

  -- the store with this xorb, and those that are left
  pub xorbs_more : with_xorbs_of s all ≡ with_xorbs_of (with_xorbs t (x ∷ [])) ms
  xorbs_more = xorb_first ∙ moved (xorbs_of_members ms)
    where
      moved : (o : Option (List Xorb)) → option_map (λ xs. with_xorbs t (x ∷ xs)) o ≡ option_map (with_xorbs (with_xorbs t (x ∷ []))) o
      moved None = refl
      moved (Some xs) = ap (λ (ys : List Xorb). let u : Store = record { xorbs = ys; files = t.files } in Some u) (sym (append_assoc t.xorbs (x ∷ []) xs))

  -- a xorb that is refused is in no valid store behind these
  pub xorb_refused : (e : StoreRefused) → xorb_refusal t x ≡ Some e → AddsXorbs s all false t
  xorb_refused e refused u is_listed fs v = go (xorbs_of_members ms) (sym xorb_first ∙ is_listed)
    where
      go : (o : Option (List Xorb)) → option_map (λ xs. with_xorbs t (x ∷ xs)) o ≡ Some u → ⊥
      go None g = cc
      go (Some xs) g =
          let same : with_xorbs t (x ∷ xs) ≡ u = cc in
          let fits = xorb_fits t x xs fs (subst (λ (w : Store). IsValid (record w { files = fs })) (sym same) v) in
          cc

-- ---- files

module _ (s t : Store) (all : Members) (k : List ℕ) (d : Data) (ms : Members) (f : StoredFile) (left : with_files_of s all ≡ with_files_of t (member k d ms)) (is : file_of_member k d ≡ Some f) where
  file_first : with_files_of s all ≡ option_map (λ fs. with_files t (f ∷ fs)) (files_of_members ms)
  file_first = left ∙ ap (λ (o : Option StoredFile). option_map (with_files t) (option_and_then (λ g. option_map (λ fs. g ∷ fs) (files_of_members ms)) o)) is ∙ joined (files_of_members ms)
    where
      joined : (o : Option (List StoredFile)) → option_map (with_files t) (option_map (λ fs. f ∷ fs) o) ≡ option_map (λ fs. with_files t (f ∷ fs)) o
      joined None = refl
      joined (Some fs) = refl

  -- the store with this file, and those that are left
  pub files_more : with_files_of s all ≡ with_files_of (with_files t (f ∷ [])) ms
  files_more = file_first ∙ moved (files_of_members ms)
    where
      moved : (o : Option (List StoredFile)) → option_map (λ fs. with_files t (f ∷ fs)) o ≡ option_map (with_files (with_files t (f ∷ []))) o
      moved None = refl
      moved (Some fs) = ap (λ (gs : List StoredFile). let u : Store = record { xorbs = t.xorbs; files = gs } in Some u) (sym (append_assoc t.files (f ∷ []) fs))

  -- a file that is refused is in no valid store behind these
  pub file_refused : (ts : List FileDataSequenceEntry) → f.terms ≡ map stored_term ts → (e : StoreRefused) → file_refusal t f.hash ts ≡ Some e → AddsFiles s all false t
  file_refused ts terms e refused u is_listed v = go (files_of_members ms) (sym file_first ∙ is_listed)
    where
      go : (o : Option (List StoredFile)) → option_map (λ fs. with_files t (f ∷ fs)) o ≡ Some u → ⊥
      go None g = cc
      go (Some fs) g =
          let same : with_files t (f ∷ fs) ≡ u = cc in
          let whole = subst IsValid (sym same) v in
          let fits = file_fits t f.hash ts fs (subst (λ (us : List StoredTerm). IsValid (with_files t (record { hash = f.hash; terms = us } ∷ fs))) terms whole) in
          cc

-- the file of a member, by its hash and its terms
pub file_is : (k : List ℕ) (d : Data) (h : MerkleHash) (ts : List FileDataSequenceEntry) → hash_of_text k ≡ Some h → Some (map stored_term ts) ≡ option_and_then terms_of_items (as_array d) → file_of_member k d ≡ Some (record { hash = h; terms = map stored_term ts })
file_is k d h ts e g = rw (e, ← g) refl

-- ---- the whole

-- what a document lists is what its two objects list
listed_parts : (d : Data) (ms : Members) (s : Store) → Some ms ≡ option_and_then as_object (get (codes "xorbs") d) → listed_store d ≡ Some s
    → (xorbs_of_members ms ≡ Some s.xorbs) × (option_and_then files_of_members (option_and_then as_object (get (codes "files") d)) ≡ Some s.files)
listed_parts d ms s is e =
    go (xorbs_of_members ms) (option_and_then files_of_members (option_and_then as_object (get (codes "files") d))) (rw (← is) at e)
  where
    go : (o : Option (List Xorb)) (p : Option (List StoredFile)) → option_and_then (λ xs. option_map (λ fs. let u : Store = record { xorbs = xs; files = fs } in u) p) o ≡ Some s → (o ≡ Some s.xorbs) × (p ≡ Some s.files)
    go None p e = cc
    go (Some xs) None e = cc
    go (Some xs) (Some fs) e =
        let u : Store = record { xorbs = xs; files = fs } in
        let same : u ≡ s = cc in
        (ap (λ (w : Store). Some w.xorbs) same, ap (λ (w : Store). Some w.files) same)

module _ (d : Data) (ms : Members) (is : Some ms ≡ option_and_then as_object (get (codes "xorbs") d)) (t : Store) where
  -- where the xorbs are in no valid store, the value is a document of none
  pub no_document-xorbs : AddsXorbs (record { xorbs = []; files = [] }) ms false t → IsNoDocument d
  no_document-xorbs refused s doc =
      let parts = listed_parts d ms s is doc.listed in
      refused (record { xorbs = s.xorbs; files = [] }) (ap (option_map (with_xorbs (record { xorbs = []; files = [] }))) parts.0) s.files doc.valid

  -- and so it is where the files are in none with the xorbs
  pub no_document-files : (ns : Members) (u : Store) → Some ns ≡ option_and_then as_object (get (codes "files") d) → AddsXorbs (record { xorbs = []; files = [] }) ms true t → AddsFiles t ns false u → IsNoDocument d
  no_document-files ns u are added refused s doc =
      let parts = listed_parts d ms s is doc.listed in
      let files : files_of_members ns ≡ Some s.files = ap (option_and_then files_of_members) are ∙ parts.1 in
      let xorbs : let w : Store = record { xorbs = s.xorbs; files = [] } in Some w ≡ Some t = sym (ap (option_map (with_xorbs (record { xorbs = []; files = [] }))) parts.0) ∙ added.0 in
      refused s (ap (option_map (with_files t)) files ∙ sym (ap (λ (o : Option Store). option_map (λ w. with_files w s.files) o) xorbs)) doc.valid

-- the store of both is the document's
document_is : (d : Data) (ms ns : Members) (m s : Store) → Some ms ≡ option_and_then as_object (get (codes "xorbs") d) → Some ns ≡ option_and_then as_object (get (codes "files") d)
    → with_xorbs_of no_store ms ≡ Some m → with_files_of m ns ≡ Some s → listed_store d ≡ Some s
document_is d ms ns m s is are e f = rw (← is, ← are) (go (xorbs_of_members ms) (files_of_members ns) e f)
  where
    go : (o : Option (List Xorb)) (p : Option (List StoredFile)) → option_map (with_xorbs no_store) o ≡ Some m → option_map (with_files m) p ≡ Some s
        → option_and_then (λ xs. option_map (λ fs. let u : Store = record { xorbs = xs; files = fs } in u) p) o ≡ Some s
    go None p e f = absurd (cc)
    go (Some xs) None e f = absurd (cc)
    go (Some xs) (Some fs) e f =
        let first : with_xorbs no_store xs ≡ m = cc in
        let last : with_files m fs ≡ s = cc in
        ap Some (ap (λ (w : Store). with_files w fs) first ∙ last)

-- what a value's objects come to is what the value comes to
pub stored_document : {E : Type 0} (d : Data) (ms ns : Members) (r : Result (Option Store) E) → Some ms ≡ option_and_then as_object (get (codes "xorbs") d) → Some ns ≡ option_and_then as_object (get (codes "files") d)
    → has_float d ≡ false → IfOk r (IsStoreOf ms ns) → IfOk r (λ o. MatchOption o (IsNoDocument d) (IsDocumentOf d))
stored_document d ms ns (Err e) is are no_float h = tt
stored_document d ms ns (Ok None) is are no_float (inl h) = no_document-xorbs d ms is no_store h
stored_document d ms ns (Ok None) is are no_float (inr h) = no_document-files d ms is h.0 ns no_store are h.1 h.2
stored_document d ms ns (Ok (Some s)) is are no_float h = record { listed = document_is d ms ns h.0 s is are h.1.0 h.2.0; no_float = no_float; valid = h.2.1 }

-- the files after the xorbs
pub adds_both : {E : Type 0} (s m t : Store) (ms ns : Members) (r : Result Bool E) → AddsXorbs s ms true m → IfOk r (λ added. AddsFiles m ns added t) → IfOk r (λ added. AddsBoth s ms ns added t)
adds_both s m t ms ns (Err e) x h = tt
adds_both s m t ms ns (Ok true) x h = (m, x, h)
adds_both s m t ms ns (Ok false) x h = inr (m, x, h)
