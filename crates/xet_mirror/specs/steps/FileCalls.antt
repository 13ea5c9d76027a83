-- What has been mirrored of a list, and what one file more does.
use Rattle.std.specs.Prelude.{ℕ, ◌≡◌, ◌⊎◌, ◌-◌, Bool, List, [], ◌∷◌, ◌++◌, length, map, All, Contains, IsNone}
use Rattle.std.specs.Prelude.{IsSome, Some, Result, Ok, IfErr, OnOk}
use Rattle.xet_base.specs.declared.mdb_shard.MDBFileInfo.{MDBFileInfo}
use Rattle.xet_base.specs.declared.merklehash.MerkleHash.{MerkleHash}
use Rattle.xet_base.specs.Store.{IsValid, Store, file_of}
use Rattle.xet_uploader.specs.StoresAfter.{file_of_record, files_in}
use Rattle.xet_uploader.specs.Uploads.{UploaderTold}
use Rattle.xet_uploader.specs.declared.uploader.Put.{Put}
use Rattle.xet_shelves.specs.Shelves.{ShelfTold}
use Rattle.xet_mirror_parts.specs.declared.copied.Copied.{Copied}
use Rattle.xet_mirror_parts.specs.declared.report.MirrorError.{MirrorError}
use Rattle.xet_mirror_parts.specs.declared.report.MirrorError.TheVariants as mirror_error
use Rattle.xet_mirror_parts.specs.Copying.{IsBadAt, IsCopying, IsLogOf, IsLookedFrom, IsLost, IsMisnamedIn}
use Rattle.xet_mirror_parts.specs.Copying.{NeverLost}
use Rattle.xet_mirror_parts.specs.Looked.{counted, looked_hashes}
use Rattle.xet_mirror_parts.specs.Moments.{Moment, Step}
use Rattle.xet_mirror.specs.Mirrored.{copied_files, named_xorbs, names_of_file}

-- the files of this list were mirrored: the records that were put are those of the copied ones, all xorbs that these
-- name were looked at, one of both stores has each file, and the counts are right
pub record IsCopied (s t : Store) (ps : List Put) (c : Copied) (done : List MerkleHash) : Type 0 where
  pub copying : IsCopying s t ps c
  pub recorded : map (λ f. f.hash) (files_in ps) ≡ copied_files t done
  pub files : All (λ f. file_of s f.hash ≡ Some (file_of_record f)) (files_in ps)
  pub named : looked_hashes c.xorbs ≡ named_xorbs s (copied_files t done)
  pub listed : All (λ f. IsSome (file_of s f) ⊎ IsSome (file_of t f)) done
  pub files_copied : c.report.files_copied ≡ counted (length (copied_files t done))
  pub files_present : c.report.files_present ≡ counted (length done - length (copied_files t done))

-- the record is that of a file, which `t` lacks, and it says of an entry that it is bad
pub record IsBadOf (s t : Store) (file : MerkleHash) (entry : ℕ) : Type 0 where
  pub info : MDBFileInfo
  pub stored : file_of s file ≡ Some (file_of_record info)
  pub bad : IsBadAt s t info.entries entry

-- why the file at a place was not mirrored; want of memory is free, and `Step` has the cause of a failed call, and that
-- hashes are compared where one differs
abbrev pub FileCause : Store → Store → ℕ → MerkleHash → MirrorError → Type 0
FileCause s t place file mirror_error.OutOfMemory = Unit {0}
FileCause s t place file mirror_error.ClientError = Unit {0}
FileCause s t place file (mirror_error.FileMissing p) =
    (p ≡ place) × IsNone (file_of s file) × IsNone (file_of t file)
FileCause s t place file (mirror_error.XorbMissing h) =
    IsNone (file_of t file) × Contains (names_of_file s file) h × IsLost s t h
FileCause s t place file (mirror_error.BadTerm p e) =
    IsNone (file_of t file) × (p ≡ place) × IsBadOf s t file e
FileCause s t place file (mirror_error.HashDiffers h) =
    IsNone (file_of t file) × Contains (names_of_file s file) h × IsMisnamedIn s t h

-- over stores, one file more was mirrored
pub record FileTold (s t : Store) (ps puts : List Put) (place : ℕ) (file : MerkleHash)
    (done : List MerkleHash) (ca : Copied) (answer : Result (Unit {0}) MirrorError) : Type 0 where
  pub log : IsLogOf s t (ps ++ puts)
  pub copied : OnOk answer (IsCopied s t (ps ++ puts) ca (done ++ file ∷ []))
  pub cause : IfErr answer (FileCause s t place file)

-- over the shelf's store alone, which is valid, one file more was mirrored
pub record FileAlone (s : Store) (ca : Copied) (answer : Result (Unit {0}) MirrorError) : Type 0 where
  pub records : OnOk answer (All (IsLookedFrom s) ca.xorbs)
  pub cause : IfErr answer NeverLost

-- one file more was mirrored
pub record FileCall (verify : Bool) (place : ℕ) (file : MerkleHash) (sb sa : ShelfTold) (tb ta : UploaderTold)
    (cb ca : Copied) (answer : Result (Unit {0}) MirrorError) : Type 0 where
  pub puts : List Put
  pub step : Step verify sb sa tb ta puts answer
  pub told : (s t : Store) (ps : List Put) (done : List MerkleHash)
      → Moment s t ps sb tb → IsCopied s t ps cb done
      → FileTold s t ps puts place file done ca answer
  pub alone : (s : Store) → sb.store ≡ Some s → IsValid s → All (IsLookedFrom s) cb.xorbs → FileAlone s ca answer

-- the files of this list were mirrored since a moment
pub record Mirroring (verify : Bool) (done : List MerkleHash) (sb sa : ShelfTold) (tb ta : UploaderTold) (c : Copied)
    : Type 0 where
  pub puts : List Put
  pub step : Step {A = Unit {0}} verify sb sa tb ta puts (Ok tt)
  pub told : (s t : Store) → Moment s t [] sb tb → IsCopied s t puts c done
  pub alone : (s : Store) → sb.store ≡ Some s → IsValid s → All (IsLookedFrom s) c.xorbs
