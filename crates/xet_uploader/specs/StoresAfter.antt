-- The store after a log: the log's xorbs and files are added in order, and one whose hash is taken is skipped.
use Rattle.std.specs.Prelude.{◌≡◌, List, [], ◌∷◌, ◌++◌, find, map, Option, Some, None, option_and_then, option_map}
use Rattle.std.specs.Option.{option_or}
use Rattle.xet_base.specs.declared.merklehash.MerkleHash.{MerkleHash}
use Rattle.xet_base.specs.declared.mdb_shard.Xorb.{Xorb}
use Rattle.xet_base.specs.declared.mdb_shard.MDBFileInfo.{MDBFileInfo}
use Rattle.xet_base.specs.declared.stored.StoredFile.{StoredFile}
use Rattle.xet_base.specs.Hashes.{hash_eq}
use Rattle.xet_base.specs.Store.{Store, file_of, xorb_of}
use Rattle.xet_store.specs.declared.mem_store.StoreRefused.{StoreRefused}
use Rattle.xet_store.specs.declared.mem_store.StoreRefused.TheVariants.{OutOfMemory, Taken, EmptyChunk, TooManyChunks}
use Rattle.xet_store.specs.declared.mem_store.StoreRefused.TheVariants.{TooLong, BadTerm}
use Rattle.xet_uploader.specs.declared.uploader.Put.{Put}
use Rattle.xet_uploader.specs.declared.uploader.Put.TheVariants as put
use Rattle.xet_store.specs.Refusals.{xorb_refusal, file_refusal, stored_term}
use Rattle.xet_uploader.specs.Uploads.{xorbs_in}

-- what a put leaves of a store, given why the store refuses it: a hash that is taken changes nothing
abbrev pub after_refusal : Store → Store → Option StoreRefused → Option Store
after_refusal s t None = Some t
after_refusal s t (Some Taken) = Some s
after_refusal s t (Some OutOfMemory) = None
after_refusal s t (Some EmptyChunk) = None
after_refusal s t (Some TooManyChunks) = None
after_refusal s t (Some TooLong) = None
after_refusal s t (Some BadTerm) = None

-- the file of a record
abbrev pub file_of_record : MDBFileInfo → StoredFile
file_of_record f = record { hash = f.hash; terms = map stored_term f.entries }

abbrev pub with_xorb : Store → Xorb → Option Store
with_xorb s x = after_refusal s (record s { xorbs = s.xorbs ++ x ∷ [] }) (xorb_refusal s x)

abbrev pub with_file : Store → MDBFileInfo → Option Store
with_file s f =
    after_refusal s (record s { files = s.files ++ file_of_record f ∷ [] }) (file_refusal s f.hash f.entries)

abbrev pub with_files : Store → List MDBFileInfo → Option Store
with_files s [] = Some s
with_files s (f ∷ fs) = option_and_then (λ t. with_files t fs) (with_file s f)

abbrev pub with_put : Store → Put → Option Store
with_put s (put.Xorb x) = with_xorb s x
with_put s (put.Shard r) = with_files s r.files

-- the store after some puts, where none of them is refused for another cause than a taken hash
abbrev pub store_after : Store → List Put → Option Store
store_after s [] = Some s
store_after s (p ∷ ps) = option_and_then (λ t. store_after t ps) (with_put s p)

-- the file records among some puts, in their order
abbrev pub files_in : List Put → List MDBFileInfo
files_in [] = []
files_in (put.Xorb x ∷ ps) = files_in ps
files_in (put.Shard r ∷ ps) = r.files ++ files_in ps

-- it finds the xorb that the store had, or else the first of the log
abbrev pub AfterFindsXorbs : Type 0
AfterFindsXorbs = (s t : Store) (log : List Put) (h : MerkleHash) → store_after s log ≡ Some t
    → xorb_of t h ≡ option_or (xorb_of s h) (find (λ x. hash_eq x.hash h) (xorbs_in log))

-- and the file that the store had, or else that of the first record of the log
abbrev pub AfterFindsFiles : Type 0
AfterFindsFiles = (s t : Store) (log : List Put) (h : MerkleHash) → store_after s log ≡ Some t
    → file_of t h ≡ option_or (file_of s h) (option_map file_of_record (find (λ f. hash_eq f.hash h) (files_in log)))
