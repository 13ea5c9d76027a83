-- What a log of puts has beside it, after one more put.
use Rattle.std.proofs.Common.{◌≡◌, Bool, List, [], ◌∷◌, ◌++◌, ◌||◌, map, refl, sym, ◌∙◌, ap}
use Rattle.std.specs.List.{list_any}
use Rattle.std.proofs.lemmas.List.{append-nil, append_assoc, map-append}
use Rattle.xet_base.specs.declared.mdb_shard.MDBFileInfo.{MDBFileInfo}
use Rattle.xet_base.specs.declared.mdb_shard.ShardRecord.{ShardRecord}
use Rattle.xet_base.specs.declared.mdb_shard.Xorb.{Xorb}
use Rattle.xet_base.specs.declared.merklehash.MerkleHash.{MerkleHash}
use Rattle.xet_base.specs.Hashes.{hash_eq}
use Rattle.xet_uploader.specs.StoresAfter.{files_in}
use Rattle.xet_uploader.specs.Uploads.{xorbs_in}
use Rattle.xet_uploader.specs.declared.uploader.Put.{Put}
use Rattle.xet_uploader.specs.declared.uploader.Put.TheVariants as put
use Rattle.xet_uploader.proofs.CallerLemmas.{xorbs_in-append}
use Rattle.xet_shelves.specs.steps.Indexes.{IsIndexed}

pub files_in-append : (ps qs : List Put) → files_in (ps ++ qs) ≡ files_in ps ++ files_in qs
files_in-append [] qs = refl
files_in-append (put.Xorb x ∷ ps) qs = files_in-append ps qs
files_in-append (put.Shard r ∷ ps) qs =
    ap (λ (fs : List MDBFileInfo). r.files ++ fs) (files_in-append ps qs)
    ∙ sym (append_assoc r.files (files_in ps) (files_in qs))

-- ---- looks

any_map : {A B : Type 0} (p : B → Bool) (f : A → B) (xs : List A) → list_any p (map f xs) ≡ list_any (λ x. p (f x)) xs
any_map p f [] = refl
any_map p f (x ∷ xs) = ap (λ (b : Bool). p (f x) || b) (any_map p f xs)

module _ (log : List Put) (xorbs files : List MerkleHash) (is : IsIndexed log xorbs files) where
  pub looked-xorb : (h : MerkleHash)
      → list_any (λ y. hash_eq y h) xorbs ≡ list_any (λ y. hash_eq y.hash h) (xorbs_in log)
  looked-xorb h =
      ap (λ (hs : List MerkleHash). list_any (λ y. hash_eq y h) hs) is.xorbs_are
      ∙ any_map (λ y. hash_eq y h) (λ x. x.hash) (xorbs_in log)

  pub looked-file : (h : MerkleHash)
      → list_any (λ y. hash_eq y h) files ≡ list_any (λ r. hash_eq r.hash h) (files_in log)
  looked-file h =
      ap (λ (hs : List MerkleHash). list_any (λ y. hash_eq y h) hs) is.files_are
      ∙ any_map (λ y. hash_eq y h) (λ f. f.hash) (files_in log)

  -- ---- one more put

  pub indexed-xorb : (x : Xorb) → IsIndexed (log ++ put.Xorb x ∷ []) (xorbs ++ x.hash ∷ []) files
  indexed-xorb x = record {
    xorbs_are =
        ap (λ (hs : List MerkleHash). hs ++ x.hash ∷ []) is.xorbs_are
        ∙ sym (ap (λ (ys : List Xorb). map (λ y. y.hash) ys) (xorbs_in-append log (put.Xorb x ∷ []))
        ∙ map-append (λ y. y.hash) (xorbs_in log) (x ∷ []));
    files_are =
        is.files_are
        ∙ sym (ap (λ (fs : List MDBFileInfo). map (λ f. f.hash) fs)
        (files_in-append log (put.Xorb x ∷ []) ∙ append-nil (files_in log)));
  }

  pub indexed-shard : (r : ShardRecord)
      → IsIndexed (log ++ put.Shard r ∷ []) xorbs (files ++ map (λ f. f.hash) r.files)
  indexed-shard r = record {
    xorbs_are =
        is.xorbs_are
        ∙ sym (ap (λ (ys : List Xorb). map (λ y. y.hash) ys)
        (xorbs_in-append log (put.Shard r ∷ []) ∙ append-nil (xorbs_in log)));
    files_are =
        ap (λ (hs : List MerkleHash). hs ++ map (λ f. f.hash) r.files) is.files_are
        ∙ sym (ap (λ (fs : List MDBFileInfo). map (λ f. f.hash) fs)
        (files_in-append log (put.Shard r ∷ [])
        ∙ ap (λ (fs : List MDBFileInfo). files_in log ++ fs) (append-nil r.files))
        ∙ map-append (λ f. f.hash) (files_in log) r.files);
  }
