-- The files of a raw store as those of the store.
use Rattle.std.proofs.Common.{◌≡◌, ℕ, ◌<◌, List, length, map, get_or, refl, sym, ◌∙◌, ap, subst, arith, All}
use Rattle.std.proofs.lemmas.List.{get_or-map, length-map}
use Rattle.std.proofs.lemmas.List.Elements.{All-map}
use Rattle.xet_base.specs.declared.mdb_shard.FileDataSequenceEntry.{FileDataSequenceEntry}
use Rattle.xet_base.specs.declared.stored.StoredFile.{StoredFile}
use Rattle.xet_base.specs.declared.stored.StoredTerm.{StoredTerm}
use Rattle.xet_base.specs.Store.{IsTermIn, IsValid, Store}
use Rattle.xet_store.specs.Refusals.{stored_term}
use Rattle.xet_audit.specs.declared.raw_store.RawFile.{RawFile}
use Rattle.xet_audit.specs.declared.raw_store.RawStore.{RawStore}
use Rattle.xet_audit.specs.Raws.{file_of_raw, store_of_raw}
use Rattle.xet_compact.specs.Documents.{IsHash, IsListableFile, IsListableTerm}

-- the terms of a file of a valid store
pub file_terms_in : (raw : RawStore) (i : ℕ) (f : RawFile) → IsValid (store_of_raw raw) → i < length raw.files
    → f ≡ get_or raw.files i f → All (IsTermIn (store_of_raw raw)) (file_of_raw f).terms
file_terms_in raw i f v l at =
    let long = length-map raw.files file_of_raw in
    let here = v.terms i (file_of_raw f) (omega (arith, l, long)) in
    let is : get_or (map file_of_raw raw.files) i (file_of_raw f) ≡ file_of_raw f = get_or-map file_of_raw raw.files i f
    (file_of_raw f) l ∙ sym (ap file_of_raw at) in
    subst (λ (g : StoredFile). All (IsTermIn (store_of_raw raw)) g.terms) is here

pub terms_in : (raw : RawStore) (i : ℕ) (f : RawFile) → IsValid (store_of_raw raw) → i < length raw.files
    → f ≡ get_or raw.files i f → All (λ t. IsTermIn (store_of_raw raw) (stored_term t)) f.terms
terms_in raw i f v l at = λ k d m.
    let long = length-map f.terms stored_term in
    let here = file_terms_in raw i f v l at k (stored_term d) (omega (arith, m, long)) in
    subst (λ (t : StoredTerm). IsTermIn (store_of_raw raw) t) (get_or-map stored_term f.terms k d (stored_term d) m) here

-- a file whose terms a document can list
pub listable_file : (f : RawFile) → IsHash f.hash → All (λ t. IsListableTerm (stored_term t)) f.terms → IsListableFile (file_of_raw f)
listable_file f hash terms = (hash, All-map IsListableTerm stored_term f.terms terms)
