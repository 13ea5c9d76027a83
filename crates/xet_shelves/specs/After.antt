-- A store with the xorbs and file records of a log, and stores that agree.
use Rattle.std.specs.Prelude.{◌≡◌, ◌++◌, cond, List, [], ◌∷◌, Option, Some, None, IsSome, is_some}
use Rattle.std.specs.List.{fold}
use Rattle.xet_base.specs.declared.merklehash.MerkleHash.{MerkleHash}
use Rattle.xet_base.specs.declared.mdb_shard.MDBFileInfo.{MDBFileInfo}
use Rattle.xet_base.specs.declared.mdb_shard.Xorb.{Xorb}
use Rattle.xet_base.specs.Store.{IsValid, Store, bytes_of, file_of, xorb_of}
use Rattle.xet_uploader.specs.StoresAfter.{file_of_record}
use Rattle.xet_uploader.specs.Uploads.{UploaderTold}
use Rattle.xet_uploader.specs.declared.uploader.Put.{Put}
use Rattle.xet_uploader.specs.declared.uploader.Put.TheVariants as put
use Rattle.xet_shelves.specs.Shelves.{ShelfTold}

-- one whose hash is there is skipped
abbrev pub add_xorb : Store → Xorb → Store
add_xorb s x = cond (is_some (xorb_of s x.hash)) s (record s { xorbs = s.xorbs ++ x ∷ [] })

abbrev pub add_file : Store → MDBFileInfo → Store
add_file s f = cond (is_some (file_of s f.hash)) s (record s { files = s.files ++ file_of_record f ∷ [] })

abbrev pub add_put : Store → Put → Store
add_put s (put.Xorb x) = add_xorb s x
add_put s (put.Shard r) = fold add_file s r.files

-- the store with a log's xorbs and file records, in order
abbrev pub after : Store → List Put → Store
after s log = fold add_put s log

-- the store after a log, or none exactly where that isn't valid
abbrev pub IsStoreAfter : Store → List Put → Option Store → Type 0
IsStoreAfter s log None = IsValid (after s log) → ⊥
IsStoreAfter s log (Some t) = (t ≡ after s log) × IsValid t

-- a xorb that both have has equal chunks, and a file that both have equal bytes
pub record Agree (s t : Store) : Type 0 where
  pub xorbs : (h : MerkleHash) (x y : Xorb) → xorb_of s h ≡ Some x → xorb_of t h ≡ Some y → x.chunks ≡ y.chunks
  pub files : (f : MerkleHash) → IsSome (file_of s f) → IsSome (file_of t f) → bytes_of s f ≡ bytes_of t f

-- the shelf tells the store `s`, and the target a first store and a log that make `t`
pub record Shown (s t : Store) (shelf : ShelfTold) (target : UploaderTold) : Type 0 where
  pub shelf_is : shelf.store ≡ Some s
  pub first : Store
  pub first_is : target.first ≡ Some first
  pub log : List Put
  pub log_is : target.puts ≡ Some log
  pub now : t ≡ after first log

-- both are valid, and agree
pub record Between (s t : Store) (shelf : ShelfTold) (target : UploaderTold) : Type 0 where
  pub shown : Shown s t shelf target
  pub from : IsValid s
  pub to : IsValid t
  pub agree : Agree s t
