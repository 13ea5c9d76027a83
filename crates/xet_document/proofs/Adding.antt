-- Stores with more xorbs and files at their ends.
use Rattle.std.proofs.Common.{◌≡◌, ◌∙◌, Bool, true, false, List, [], ◌∷◌, map, sym, ap, subst, append_assoc, append-nil}
use Rattle.std.specs.Prelude.{Result, Ok, Err, IfOk, Some}
use Rattle.xet_base.specs.declared.mdb_shard.FileDataSequenceEntry.{FileDataSequenceEntry}
use Rattle.xet_base.specs.declared.merklehash.MerkleHash.{MerkleHash}
use Rattle.xet_base.specs.declared.mdb_shard.Xorb.{Xorb}
use Rattle.xet_base.specs.declared.stored.StoredFile.{StoredFile}
use Rattle.xet_base.specs.Store.{Store, IsValid}
use Rattle.xet_store.specs.declared.mem_store.StoreRefused.{StoreRefused}
use Rattle.xet_store.specs.Refusals.{file_refusal, stored_term, xorb_refusal}
use Rattle.xet_document.specs.declared.plain_store.Listed.{Listed}
use Rattle.xet_document.specs.steps.AddedMembers.{TakesFiles, TakesXorbs, with_files, with_xorbs}
use Rattle.xet_document.specs.steps.Reads.{Takes, stored_files, stored_xorbs}
use Rattle.xet_document.proofs.StoreRefusals.{file_fits, xorb_fits}

-- one after the other
pub xorb_then : (s : Store) (x : Xorb) (xs : List Xorb) → with_xorbs s (x ∷ xs) ≡ with_xorbs (with_xorbs s (x ∷ [])) xs
xorb_then s x xs = ap (λ ys. let t : Store = record { xorbs = ys; files = s.files } in t) (sym (append_assoc s.xorbs (x ∷ []) xs))

pub file_then : (s : Store) (f : StoredFile) (fs : List StoredFile) → with_files s (f ∷ fs) ≡ with_files (with_files s (f ∷ [])) fs
file_then s f fs = ap (λ gs. let t : Store = record { xorbs = s.xorbs; files = gs } in t) (sym (append_assoc s.files (f ∷ []) fs))

-- a xorb that is refused is in no valid store with those behind it
pub xorb_stops : (s t : Store) (xs : List Xorb) (x : Xorb) (rest : List Xorb) (e : StoreRefused) → with_xorbs s xs ≡ with_xorbs t (x ∷ rest) → xorb_refusal t x ≡ Some e → TakesXorbs s xs false t
xorb_stops s t xs x rest e left refused fs v =
    let fits = xorb_fits t x rest fs (subst (λ (w : Store). IsValid (record w { files = fs })) left v) in
    cc

-- nor is a file
pub file_stops : (s t : Store) (fs : List StoredFile) (h : MerkleHash) (ts : List FileDataSequenceEntry) (rest : List StoredFile) (e : StoreRefused)
    → with_files s fs ≡ with_files t (record { hash = h; terms = map stored_term ts } ∷ rest) → file_refusal t h ts ≡ Some e → TakesFiles s fs false t
file_stops s t fs h ts rest e left refused v =
    let fits = file_fits t h ts rest (subst IsValid left v) in
    cc

-- the files after the xorbs
pub takes_both : {E : Type 0} (s m t : Store) (l : Listed) (r : Result Bool E) → TakesXorbs s (stored_xorbs l.xorbs) true m → IfOk r (λ added. TakesFiles m (stored_files l.files) added t) → IfOk r (λ added. Takes s l added t)
takes_both s m t l (Err e) x h = tt
takes_both s m t l (Ok true) x h = (h.0 ∙ ap (λ (w : Store). with_files w (stored_files l.files)) x.0, h.1)
takes_both s m t l (Ok false) x h = λ v. h (subst (λ (w : Store). IsValid (with_files w (stored_files l.files))) (sym x.0) v)

-- none at all
pub no_xorbs : (s : Store) → with_xorbs s [] ≡ s
no_xorbs s = ap (λ xs. let t : Store = record { xorbs = xs; files = s.files } in t) (append-nil s.xorbs)

pub no_files : (s : Store) → with_files s [] ≡ s
no_files s = ap (λ fs. let t : Store = record { xorbs = s.xorbs; files = fs } in t) (append-nil s.files)
