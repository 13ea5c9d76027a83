-- Adding a log to a store, its xorbs first, comes to the store after the log, exactly where that is valid.
use Rattle.std.proofs.Common.{◌≡◌, Bool, true, false, cond, List, [], ◌∷◌, ◌++◌, map, refl, sym, ◌∙◌, ap, subst}
use Rattle.std.specs.Prelude.{Option, Some, None, is_some, option_and_then, All}
use Rattle.std.specs.List.{fold}
use Rattle.std.specs.Option.{option_or}
use Rattle.std.proofs.lemmas.Option.{none-some, same_Some}
use Rattle.xet_base.specs.declared.mdb_shard.MDBFileInfo.{MDBFileInfo}
use Rattle.xet_base.specs.declared.mdb_shard.Xorb.{Xorb}
use Rattle.xet_base.specs.declared.stored.StoredFile.{StoredFile}
use Rattle.xet_base.specs.Hashes.{hash_eq}
use Rattle.xet_base.specs.Store.{IsValid, IsValidXorb, Store, file_of}
use Rattle.xet_base.proofs.CallerLemmas.{hash_eq-own}
use Rattle.xet_uploader.specs.declared.uploader.Put.{Put}
use Rattle.xet_uploader.specs.declared.uploader.Put.TheVariants as put
use Rattle.xet_uploader.specs.StoresAfter.{file_of_record, files_in, store_after}
use Rattle.xet_uploader.specs.StoresAfter.{with_file, with_files, with_put, with_xorb}
use Rattle.xet_uploader.specs.Uploads.{xorbs_in}
use Rattle.xet_shelves.specs.After.{add_file, add_put, add_xorb, after}
use Rattle.xet_shelves.specs.steps.Tries.{each_put, put_files, put_xorb}
use Rattle.xet_shelves.proofs.AfterStores.{add_file-files, add_file-xorbs, add_files-files, add_files-xorbs}
use Rattle.xet_shelves.proofs.AfterStores.{add_xorb-files, add_xorb-xorbs, after-files, after-xorbs, file_key, xorb_key}
use Rattle.xet_shelves.proofs.GrownLists.{all-finds, all-new, grown, grown-finds, with_key}
use Rattle.xet_shelves.proofs.Takings.{with_file-fits, with_file-is, with_xorb-fits, with_xorb-is}

-- ---- all xorbs of a log

and_then : {A : Type 0} (f : A → Option A) (o : Option A) (t : A) → option_and_then f o ≡ Some t
    → (u : A) × (o ≡ Some u) × (f u ≡ Some t)
and_then f None t h = absurd (none-some t h)
and_then f (Some u) t h = (u, refl, h)

tried-xorbs : (log : List Put) (s t : Store) → each_put put_xorb s log ≡ Some t → t ≡ fold add_xorb s (xorbs_in log)
tried-xorbs [] s t h = sym (same_Some s t h)
tried-xorbs (put.Xorb x ∷ ps) s t h =
    let next = and_then (λ u. each_put put_xorb u ps) (with_xorb s x) t h in
    tried-xorbs ps next.0 t next.2
    ∙ ap (λ (u : Store). fold add_xorb u (xorbs_in ps)) (with_xorb-is s next.0 x next.1)
tried-xorbs (put.Shard r ∷ ps) s t h = tried-xorbs ps s t h

valid-xorbs : (log : List Put) (s : Store) → All IsValidXorb (fold (grown xorb_key) s.xorbs (xorbs_in log))
    → each_put put_xorb s log ≡ Some (fold add_xorb s (xorbs_in log))
valid-xorbs [] s all = refl
valid-xorbs (put.Xorb x ∷ ps) s all =
    let step = with_xorb-fits s x (λ new. all-new xorb_key IsValidXorb (xorbs_in ps) s.xorbs x new all) in
    let rest : All IsValidXorb (fold (grown xorb_key) (add_xorb s x).xorbs (xorbs_in ps)) =
    let Q : List Xorb → Type 0 = λ xs. All IsValidXorb (fold (grown xorb_key) xs (xorbs_in ps)) in
    subst Q (sym (add_xorb-xorbs s x)) all in
    ap (option_and_then (λ u. each_put put_xorb u ps)) step ∙ valid-xorbs ps (add_xorb s x) rest
valid-xorbs (put.Shard r ∷ ps) s all = valid-xorbs ps s all

-- ---- all file records

tried-files : (fs : List MDBFileInfo) (s t : Store) → with_files s fs ≡ Some t → t ≡ fold add_file s fs
tried-files [] s t h = sym (same_Some s t h)
tried-files (f ∷ fs) s t h =
    let next = and_then (λ u. with_files u fs) (with_file s f) t h in
    tried-files fs next.0 t next.2 ∙ ap (λ (u : Store). fold add_file u fs) (with_file-is s next.0 f next.1)

-- a file that is added is found afterwards
found-after : (s : Store) (f : MDBFileInfo) (fs : List MDBFileInfo) → is_some (file_of s f.hash) ≡ false
    → file_of (fold add_file (add_file s f) fs) f.hash ≡ Some (file_of_record f)
found-after s f fs new =
    let more : List StoredFile = map file_of_record fs in
    ap (λ (gs : List StoredFile). with_key file_key f.hash gs) (add_files-files fs (add_file s f))
    ∙ all-finds file_key more (add_file s f).files f.hash
    ∙ ap (λ (gs : List StoredFile). option_or (with_key file_key f.hash gs) (with_key file_key f.hash more))
    (add_file-files s f)
    ∙ ap (λ (o : Option StoredFile). option_or o (with_key file_key f.hash more))
    (grown-finds file_key s.files (file_of_record f) f.hash
    ∙ here (file_of s f.hash) new (hash_eq f.hash f.hash) (hash_eq-own f.hash))
  where
    here : (o : Option StoredFile) → is_some o ≡ false → (b : Bool) → b ≡ true
        → option_or o (cond b (Some (file_of_record f)) None) ≡ Some (file_of_record f)
    here None e b g = ap (λ (c : Bool). cond c (Some (file_of_record f)) None) g
    here (Some x) e b g = cc

valid-files : (fs : List MDBFileInfo) (s v : Store) → v ≡ fold add_file s fs → IsValid v → with_files s fs ≡ Some v
valid-files [] s v e valid = ap Some (sym e)
valid-files (f ∷ fs) s v e valid =
    let same = ap (λ (u : Store). u.xorbs) e ∙ add_files-xorbs fs (add_file s f) ∙ add_file-xorbs s f in
    let step =
    with_file-fits s v f valid same (λ new. ap (λ (u : Store). file_of u f.hash) e ∙ found-after s f fs new) in
    ap (option_and_then (λ u. with_files u fs)) step ∙ valid-files fs (add_file s f) v e valid

with_files-append : (fs gs : List MDBFileInfo) (s : Store)
    → with_files s (fs ++ gs) ≡ option_and_then (λ u. with_files u gs) (with_files s fs)
with_files-append [] gs s = refl
with_files-append (f ∷ fs) gs s = go (with_file s f) (λ u. with_files-append fs gs u)
  where
    go : (o : Option Store)
        → ((u : Store) → with_files u (fs ++ gs) ≡ option_and_then (λ w. with_files w gs) (with_files u fs))
        → option_and_then (λ u. with_files u (fs ++ gs)) o
        ≡ option_and_then (λ u. with_files u gs) (option_and_then (λ u. with_files u fs) o)
    go None next = refl
    go (Some u) next = next u

put_files-all : (log : List Put) (s : Store) → each_put put_files s log ≡ with_files s (files_in log)
put_files-all [] s = refl
put_files-all (put.Xorb x ∷ ps) s = put_files-all ps s
put_files-all (put.Shard r ∷ ps) s =
    go (with_files s r.files) (λ u. put_files-all ps u) ∙ sym (with_files-append r.files (files_in ps) s)
  where
    go : (o : Option Store) → ((u : Store) → each_put put_files u ps ≡ with_files u (files_in ps))
        → option_and_then (λ u. each_put put_files u ps) o ≡ option_and_then (λ u. with_files u (files_in ps)) o
    go None next = refl
    go (Some u) next = next u

-- ---- a log, its xorbs first

add_xorbs-xorbs : (xs : List Xorb) (s : Store) → (fold add_xorb s xs).xorbs ≡ fold (grown xorb_key) s.xorbs xs
add_xorbs-xorbs [] s = refl
add_xorbs-xorbs (x ∷ xs) s =
    add_xorbs-xorbs xs (add_xorb s x) ∙ ap (λ (ys : List Xorb). fold (grown xorb_key) ys xs) (add_xorb-xorbs s x)

add_xorbs-files : (xs : List Xorb) (s : Store) → (fold add_xorb s xs).files ≡ s.files
add_xorbs-files [] s = refl
add_xorbs-files (x ∷ xs) s = add_xorbs-files xs (add_xorb s x) ∙ add_xorb-files s x

same-store : (s t : Store) → s.xorbs ≡ t.xorbs → s.files ≡ t.files → s ≡ t
same-store s t e f =
    ap (λ (xs : List Xorb). let u : Store = record { xorbs = xs; files = s.files } in u) e
    ∙ ap (λ (fs : List StoredFile). let u : Store = record { xorbs = t.xorbs; files = fs } in u) f

module _ (s : Store) (log : List Put) where
  xorbs_first : fold add_file (fold add_xorb s (xorbs_in log)) (files_in log) ≡ after s log
  xorbs_first =
      let u : Store = fold add_xorb s (xorbs_in log) in
      same-store (fold add_file u (files_in log)) (after s log)
      (add_files-xorbs (files_in log) u ∙ add_xorbs-xorbs (xorbs_in log) s ∙ sym (after-xorbs log s))
      (add_files-files (files_in log) u
      ∙ ap (λ (fs : List StoredFile). fold (grown file_key) fs (map file_of_record (files_in log)))
      (add_xorbs-files (xorbs_in log) s)
      ∙ sym (after-files log s))

  -- a xorb was refused
  pub tried-no-xorb : each_put put_xorb s log ≡ None → IsValid (after s log) → ⊥
  tried-no-xorb none valid =
      let Q : List Xorb → Type 0 = λ xs. All IsValidXorb xs in
      none-some (fold add_xorb s (xorbs_in log))
      (sym none ∙ valid-xorbs log s (subst Q (after-xorbs log s) valid.xorbs))

  module _ (u : Store) (xorbs : each_put put_xorb s log ≡ Some u) where
    is_after : fold add_file u (files_in log) ≡ after s log
    is_after = ap (λ (w : Store). fold add_file w (files_in log)) (tried-xorbs log s u xorbs) ∙ xorbs_first

    -- a file was refused
    pub tried-no-file : each_put put_files u log ≡ None → IsValid (after s log) → ⊥
    tried-no-file none valid =
        none-some (after s log)
        (sym none ∙ put_files-all log u ∙ valid-files (files_in log) u (after s log) (sym is_after) valid)

    -- none was
    pub tried-all : (t : Store) → each_put put_files u log ≡ Some t → t ≡ after s log
    tried-all t h = tried-files (files_in log) u t (sym (put_files-all log u) ∙ h) ∙ is_after

-- ---- a log in its order

put-is : (s u : Store) (p : Put) → with_put s p ≡ Some u → u ≡ add_put s p
put-is s u (put.Xorb x) h = with_xorb-is s u x h
put-is s u (put.Shard r) h = tried-files r.files s u h

pub after-gives : (log : List Put) (s t : Store) → store_after s log ≡ Some t → t ≡ after s log
after-gives [] s t h = sym (same_Some s t h)
after-gives (p ∷ ps) s t h =
    let next = and_then (λ u. store_after u ps) (with_put s p) t h in
    after-gives ps next.0 t next.2 ∙ ap (λ (u : Store). after u ps) (put-is s next.0 p next.1)
