-- What the store after a log has.
use Rattle.std.proofs.Common.{◌≡◌, Bool, true, false, cond, ◌||◌, List, [], ◌∷◌, ◌++◌, map, refl, sym, ◌∙◌, ap}
use Rattle.std.specs.Prelude.{Option, Some, None, find, is_some, option_map}
use Rattle.std.specs.List.{fold, list_any}
use Rattle.std.specs.Option.{option_or}
use Rattle.std.proofs.lemmas.List.{map-append}
use Rattle.std.proofs.lemmas.List.Sums.{fold-append}
use Rattle.xet_base.specs.declared.merklehash.MerkleHash.{MerkleHash}
use Rattle.xet_base.specs.declared.mdb_shard.MDBFileInfo.{MDBFileInfo}
use Rattle.xet_base.specs.declared.mdb_shard.Xorb.{Xorb}
use Rattle.xet_base.specs.declared.stored.StoredFile.{StoredFile}
use Rattle.xet_base.specs.Hashes.{hash_eq}
use Rattle.xet_base.specs.Store.{Store, file_of, xorb_of}
use Rattle.xet_uploader.specs.declared.uploader.Put.{Put}
use Rattle.xet_uploader.specs.declared.uploader.Put.TheVariants as put
use Rattle.xet_uploader.specs.StoresAfter.{file_of_record, files_in}
use Rattle.xet_uploader.specs.Uploads.{xorbs_in}
use Rattle.xet_shelves.specs.After.{add_file, add_put, add_xorb, after}
use Rattle.xet_shelves.specs.Shelves.{has_file, has_xorb}
use Rattle.xet_shelves.proofs.GrownLists.{all-finds, grown, with_key}

-- ---- options

some_or : {A : Type 0} (a b : Option A) → is_some (option_or a b) ≡ (is_some a || is_some b)
some_or (Some x) b = refl
some_or None b = refl

some_map : {A B : Type 0} (f : A → B) (o : Option A) → is_some (option_map f o) ≡ is_some o
some_map f (Some x) = refl
some_map f None = refl

some_find : {A : Type 0} (p : A → Bool) (xs : List A) → is_some (find p xs) ≡ list_any p xs
some_find p [] = refl
some_find p (x ∷ xs) = go (p x) (some_find p xs)
  where
    go : (b : Bool) → is_some (find p xs) ≡ list_any p xs
        → is_some (cond b (Some x) (find p xs)) ≡ (b || list_any p xs)
    go true e = refl
    go false e = e

find_map : {A B : Type 0} (p : B → Bool) (f : A → B) (xs : List A)
    → find p (map f xs) ≡ option_map f (find (λ x. p (f x)) xs)
find_map p f [] = refl
find_map p f (x ∷ xs) = go (p (f x)) (find_map p f xs)
  where
    go : (b : Bool) → find p (map f xs) ≡ option_map f (find (λ x. p (f x)) xs)
        → cond b (Some (f x)) (find p (map f xs)) ≡ option_map f (cond b (Some x) (find (λ x. p (f x)) xs))
    go true e = refl
    go false e = e

-- ---- the store after a log

-- that of two logs, one behind the other
pub after-append : (s : Store) (a b : List Put) → after s (a ++ b) ≡ after (after s a) b
after-append s a b = fold-append add_put s a b

-- the hash of a xorb, and of a stored file
abbrev pub xorb_key : Xorb → MerkleHash
xorb_key x = x.hash

abbrev pub file_key : StoredFile → MerkleHash
file_key f = f.hash

pub add_xorb-xorbs : (s : Store) (x : Xorb) → (add_xorb s x).xorbs ≡ grown xorb_key s.xorbs x
add_xorb-xorbs s x = go (is_some (xorb_of s x.hash))
  where
    go : (b : Bool) → (cond b s (record s { xorbs = s.xorbs ++ x ∷ [] })).xorbs ≡ cond b s.xorbs (s.xorbs ++ x ∷ [])
    go true = refl
    go false = refl

pub add_xorb-files : (s : Store) (x : Xorb) → (add_xorb s x).files ≡ s.files
add_xorb-files s x = go (is_some (xorb_of s x.hash))
  where
    go : (b : Bool) → (cond b s (record s { xorbs = s.xorbs ++ x ∷ [] })).files ≡ s.files
    go true = refl
    go false = refl

pub add_file-files : (s : Store) (f : MDBFileInfo) → (add_file s f).files ≡ grown file_key s.files (file_of_record f)
add_file-files s f = go (is_some (file_of s f.hash))
  where
    go : (b : Bool) → (cond b s (record s { files = s.files ++ file_of_record f ∷ [] })).files
        ≡ cond b s.files (s.files ++ file_of_record f ∷ [])
    go true = refl
    go false = refl

pub add_file-xorbs : (s : Store) (f : MDBFileInfo) → (add_file s f).xorbs ≡ s.xorbs
add_file-xorbs s f = go (is_some (file_of s f.hash))
  where
    go : (b : Bool) → (cond b s (record s { files = s.files ++ file_of_record f ∷ [] })).xorbs ≡ s.xorbs
    go true = refl
    go false = refl

pub add_files-xorbs : (fs : List MDBFileInfo) (s : Store) → (fold add_file s fs).xorbs ≡ s.xorbs
add_files-xorbs [] s = refl
add_files-xorbs (f ∷ fs) s = add_files-xorbs fs (add_file s f) ∙ add_file-xorbs s f

pub add_files-files : (fs : List MDBFileInfo) (s : Store)
    → (fold add_file s fs).files ≡ fold (grown file_key) s.files (map file_of_record fs)
add_files-files [] s = refl
add_files-files (f ∷ fs) s =
    add_files-files fs (add_file s f)
    ∙ ap (λ (gs : List StoredFile). fold (grown file_key) gs (map file_of_record fs)) (add_file-files s f)

-- its xorbs and its files
pub after-xorbs : (log : List Put) (s : Store) → (after s log).xorbs ≡ fold (grown xorb_key) s.xorbs (xorbs_in log)
after-xorbs [] s = refl
after-xorbs (put.Xorb x ∷ ps) s =
    after-xorbs ps (add_xorb s x)
    ∙ ap (λ (xs : List Xorb). fold (grown xorb_key) xs (xorbs_in ps)) (add_xorb-xorbs s x)
after-xorbs (put.Shard r ∷ ps) s =
    after-xorbs ps (fold add_file s r.files)
    ∙ ap (λ (xs : List Xorb). fold (grown xorb_key) xs (xorbs_in ps)) (add_files-xorbs r.files s)

pub after-files : (log : List Put) (s : Store)
    → (after s log).files ≡ fold (grown file_key) s.files (map file_of_record (files_in log))
after-files [] s = refl
after-files (put.Xorb x ∷ ps) s =
    after-files ps (add_xorb s x)
    ∙ ap (λ (fs : List StoredFile). fold (grown file_key) fs (map file_of_record (files_in ps))) (add_xorb-files s x)
after-files (put.Shard r ∷ ps) s =
    let more : List StoredFile = map file_of_record (files_in ps) in
    after-files ps (fold add_file s r.files)
    ∙ ap (λ (fs : List StoredFile). fold (grown file_key) fs more) (add_files-files r.files s)
    ∙ sym (fold-append (grown file_key) s.files (map file_of_record r.files) more)
    ∙ ap (λ (fs : List StoredFile). fold (grown file_key) s.files fs)
    (sym (map-append file_of_record r.files (files_in ps)))

-- it finds the xorb that the store had, or else the first of the log
pub after_finds_xorbs : (s : Store) (log : List Put) (h : MerkleHash)
    → xorb_of (after s log) h ≡ option_or (xorb_of s h) (find (λ x. hash_eq x.hash h) (xorbs_in log))
after_finds_xorbs s log h =
    ap (λ (xs : List Xorb). with_key xorb_key h xs) (after-xorbs log s)
    ∙ all-finds xorb_key (xorbs_in log) s.xorbs h

-- and the file that the store had, or else that of the first record of the log
pub after_finds_files : (s : Store) (log : List Put) (h : MerkleHash)
    → file_of (after s log) h
    ≡ option_or (file_of s h) (option_map file_of_record (find (λ f. hash_eq f.hash h) (files_in log)))
after_finds_files s log h =
    ap (λ (fs : List StoredFile). with_key file_key h fs) (after-files log s)
    ∙ all-finds file_key (map file_of_record (files_in log)) s.files h
    ∙ ap (option_or (file_of s h)) (find_map (λ f. hash_eq f.hash h) file_of_record (files_in log))

-- what a look tells is what it has
pub has_xorb-after : (s : Store) (log : List Put) (h : MerkleHash)
    → has_xorb s log h ≡ is_some (xorb_of (after s log) h)
has_xorb-after s log h =
    let p : Xorb → Bool = λ x. hash_eq x.hash h in
    sym (ap (λ (o : Option Xorb). is_some o) (after_finds_xorbs s log h)
    ∙ some_or (xorb_of s h) (find p (xorbs_in log))
    ∙ ap (λ (b : Bool). is_some (xorb_of s h) || b) (some_find p (xorbs_in log)))

pub has_file-after : (s : Store) (log : List Put) (h : MerkleHash)
    → has_file s log h ≡ is_some (file_of (after s log) h)
has_file-after s log h =
    let p : MDBFileInfo → Bool = λ f. hash_eq f.hash h in
    sym (ap (λ (o : Option StoredFile). is_some o) (after_finds_files s log h)
    ∙ some_or (file_of s h) (option_map file_of_record (find p (files_in log)))
    ∙ ap (λ (b : Bool). is_some (file_of s h) || b)
    (some_map file_of_record (find p (files_in log)) ∙ some_find p (files_in log)))
