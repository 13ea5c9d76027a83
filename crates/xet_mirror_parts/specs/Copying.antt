-- What a call that mirrors from one store to another has done at a moment, and what its parts do.
use Rattle.std.specs.Prelude.{ℕ, ◌≡◌, ◌≢◌, ◌⊎◌, Bool, true, false, List, [], ◌∷◌, ◌++◌, length, map, filter, All}
use Rattle.std.specs.Prelude.{AllPairs, Contains, IsFalse, IsNone, IsSome, None, Option, Result, Some, is_none, is_some}
use Rattle.std.specs.Prelude.{slice_get, IfErr, IfOk, MatchOption, OnOk}
use Rattle.std.specs.List.{concat, sum_by}
use Rattle.xet_base.specs.declared.merklehash.MerkleHash.{MerkleHash}
use Rattle.xet_base.specs.declared.mdb_shard.FileDataSequenceEntry.{FileDataSequenceEntry}
use Rattle.xet_base.specs.declared.mdb_shard.MDBFileInfo.{MDBFileInfo}
use Rattle.xet_base.specs.declared.mdb_shard.MDBXorbInfo.{MDBXorbInfo}
use Rattle.xet_base.specs.declared.mdb_shard.ShardRecord.{ShardRecord}
use Rattle.xet_base.specs.declared.mdb_shard.Xorb.{Xorb}
use Rattle.xet_base.specs.Digests.{xorb_hash_of}
use Rattle.xet_base.specs.Hashes.{hash_eq}
use Rattle.xet_base.specs.Lists.{firsts}
use Rattle.xet_base.specs.Store.{IsValid, Store, chunks_of, file_of, xorb_of}
use Rattle.xet_store.specs.Refusals.{is_term_in, stored_term}
use Rattle.xet_uploader.specs.StoresAfter.{file_of_record, files_in}
use Rattle.xet_uploader.specs.Uploads.{UploaderTold, capped_info, record_of, xorbs_in}
use Rattle.xet_uploader.specs.declared.uploader.Put.{Put}
use Rattle.xet_uploader.specs.declared.uploader.Put.TheVariants as put
use Rattle.xet_upload.specs.Orders.{IsOrdered}
use Rattle.xet_shelves.specs.After.{Agree, after}
use Rattle.xet_shelves.specs.Shelves.{ShelfTold}
use Rattle.xet_mirror_parts.specs.declared.copied.Copied.{Copied}
use Rattle.xet_mirror_parts.specs.declared.copied.LookedXorb.{LookedXorb}
use Rattle.xet_mirror_parts.specs.declared.report.MirrorError.{MirrorError}
use Rattle.xet_mirror_parts.specs.declared.report.MirrorError.TheVariants as mirror_error
use Rattle.xet_mirror_parts.specs.declared.report.MirrorReport.{MirrorReport}
use Rattle.xet_mirror_parts.specs.Looked.{counted, looked_hashes, with_copied}
use Rattle.xet_mirror_parts.specs.Moments.{Moment, Step}

-- ---- what was put

-- the shards among some puts, in their order
abbrev pub shards_in : List Put → List ShardRecord
shards_in [] = []
shards_in (put.Xorb x ∷ ps) = shards_in ps
shards_in (put.Shard r ∷ ps) = r ∷ shards_in ps

-- the record is that of a xorb of `s`
pub record IsInfoFrom (s : Store) (info : MDBXorbInfo) : Type 0 where
  pub xorb : Xorb
  pub stored : xorb_of s info.hash ≡ Some xorb
  pub is : info ≡ record_of xorb

-- the shard has the record of one file of `s`, and those of the xorbs that it names, each once
pub record IsShardOf (s : Store) (shard : ShardRecord) : Type 0 where
  pub file : MDBFileInfo
  pub files : shard.files ≡ file ∷ []
  pub stored : file_of s file.hash ≡ Some (file_of_record file)
  pub named : map (λ i. i.hash) shard.xorbs ≡ firsts hash_eq (map (λ e. e.xorb) file.entries)
  pub xorbs : All (IsInfoFrom s) shard.xorbs

-- a put xorb is one of `s`, and none is one of `t`
pub record IsSentFrom (s t : Store) (x : Xorb) : Type 0 where
  pub stored : xorb_of s x.hash ≡ Some x
  pub new : IsNone (xorb_of t x.hash)

-- the puts are in order by themselves, with the xorbs of `t` known; each put xorb is one of `s` and none of `t`, and
-- none was put twice; each shard is that of a file
pub record IsLogOf (s t : Store) (ps : List Put) : Type 0 where
  pub ordered : IsOrdered ps 0 (map (λ x. x.hash) t.xorbs)
  pub sent : All (IsSentFrom s t) (xorbs_in ps)
  pub once : AllPairs (λ x y. IsFalse (hash_eq x.hash y.hash)) (xorbs_in ps)
  pub shards : All (IsShardOf s) (shards_in ps)

-- what was looked at is a xorb of `s`
abbrev pub IsLookedFrom : Store → LookedXorb → Type 0
IsLookedFrom s l = IsInfoFrom s l.info

-- what was put is such a log, after which `t` is still valid; what was looked at is `s`'s, each once; the put xorbs are
-- those of it that `t` lacks; and the counts are right
pub record IsCopying (s t : Store) (ps : List Put) (c : Copied) : Type 0 where
  pub log : IsLogOf s t ps
  pub valid : IsValid s → IsValid t → Agree s t → IsValid (after t ps)
  pub records : All (IsLookedFrom s) c.xorbs
  pub sent : map (λ x. x.hash) (xorbs_in ps) ≡ filter (λ h. is_none (xorb_of t h)) (looked_hashes c.xorbs)
  pub apart : looked_hashes c.xorbs ≡ firsts hash_eq (looked_hashes c.xorbs)
  pub xorbs_sent : c.report.xorbs_sent ≡ counted (length (xorbs_in ps))
  pub xorbs_present : c.report.xorbs_present
      ≡ counted (length (filter (λ h. is_some (xorb_of t h)) (looked_hashes c.xorbs)))
  pub bytes_sent : c.report.bytes_sent ≡ counted (sum_by (λ x. length (concat x.chunks)) (xorbs_in ps))

-- ---- causes

-- the hash of a xorb's chunks, of which one of 2^32 bytes or more counts with 2^32 - 1
abbrev pub chunks_hash : Store → MerkleHash → MerkleHash
chunks_hash s h = xorb_hash_of (map capped_info (chunks_of s h))

-- neither store has the xorb
abbrev pub IsLost : Store → Store → MerkleHash → Type 0
IsLost s t h = IsNone (xorb_of s h) × IsNone (xorb_of t h)

-- `s` has the xorb, which `t` lacks, and its hash isn't that of its chunks
pub record IsMisnamedIn (s t : Store) (h : MerkleHash) : Type 0 where
  pub stored : IsSome (xorb_of s h)
  pub lacking : IsNone (xorb_of t h)
  pub differs : chunks_hash s h ≢ h

-- the term with this number isn't from below to inside a xorb of `s`, and one of both stores has the xorb
pub record IsBadAt (s t : Store) (terms : List FileDataSequenceEntry) (entry : ℕ) : Type 0 where
  pub term : FileDataSequenceEntry
  pub at : slice_get terms entry ≡ Some term
  pub outside : is_term_in s (stored_term term) ≡ false
  pub known : IsSome (xorb_of s term.xorb) ⊎ IsSome (xorb_of t term.xorb)

-- why looking at xorbs failed, which are named so; want of memory is free, and `Step` has the cause of a failed call,
-- and that hashes are compared where one differs
abbrev pub LookCause : Store → Store → (MerkleHash → Type 0) → MirrorError → Type 0
LookCause s t Named mirror_error.OutOfMemory = Unit {0}
LookCause s t Named mirror_error.ClientError = Unit {0}
LookCause s t Named (mirror_error.XorbMissing h) = Named h × IsLost s t h
LookCause s t Named (mirror_error.HashDiffers h) = Named h × IsMisnamedIn s t h
LookCause s t Named (mirror_error.FileMissing p) = ⊥
LookCause s t Named (mirror_error.BadTerm p e) = ⊥

-- why copying the file at a place failed
abbrev pub CopyCause : Store → Store → ℕ → MDBFileInfo → MirrorError → Type 0
CopyCause s t place file mirror_error.OutOfMemory = Unit {0}
CopyCause s t place file mirror_error.ClientError = Unit {0}
CopyCause s t place file (mirror_error.XorbMissing h) =
    Contains (map (λ e. e.xorb) file.entries) h × IsLost s t h
CopyCause s t place file (mirror_error.HashDiffers h) =
    Contains (map (λ e. e.xorb) file.entries) h × IsMisnamedIn s t h
CopyCause s t place file (mirror_error.FileMissing p) = ⊥
CopyCause s t place file (mirror_error.BadTerm p e) = (p ≡ place) × IsBadAt s t file.entries e

-- the error is neither `XorbMissing` nor `BadTerm`
abbrev pub NeverLost : MirrorError → Type 0
NeverLost mirror_error.OutOfMemory = Unit {0}
NeverLost mirror_error.ClientError = Unit {0}
NeverLost (mirror_error.FileMissing p) = Unit {0}
NeverLost (mirror_error.HashDiffers h) = Unit {0}
NeverLost (mirror_error.XorbMissing h) = ⊥
NeverLost (mirror_error.BadTerm p e) = ⊥

-- ---- parts of a call

-- the counts of files stayed
abbrev pub SameFiles : MirrorReport → MirrorReport → Type 0
SameFiles b a = (a.files_copied ≡ b.files_copied) × (a.files_present ≡ b.files_present)

-- where the hashes that were looked at are the different ones of a list, they are so with these
abbrev pub LooksAt : Copied → Copied → List MerkleHash → Type 0
LooksAt cb ca named =
    (hs : List MerkleHash) → looked_hashes cb.xorbs ≡ firsts hash_eq hs
    → looked_hashes ca.xorbs ≡ firsts hash_eq (hs ++ named)

-- over stores, one xorb was looked at: whether a test of `s` holds, which it does not only where one has the xorb
pub record LookTold (s t : Store) (ps puts : List Put) (xorb : MerkleHash) (good : Bool) (ca : Copied)
    (answer : Result Bool MirrorError) : Type 0 where
  pub log : IsLogOf s t (ps ++ puts)
  pub copying : OnOk answer (IsCopying s t (ps ++ puts) ca)
  pub is : IfOk answer (λ b. b ≡ good)
  pub known : IfOk answer (λ b. b ≡ false → IsSome (xorb_of s xorb) ⊎ IsSome (xorb_of t xorb))
  pub cause : IfErr answer (LookCause s t (λ h. h ≡ xorb))

-- over the shelf's store alone, one xorb was looked at: what was looked at is the store's, and where the test holds the
-- answer says so, or is another error
pub record LookAlone (s : Store) (good : Bool) (ca : Copied) (answer : Result Bool MirrorError) : Type 0 where
  pub records : OnOk answer (All (IsLookedFrom s) ca.xorbs)
  pub is : good ≡ true → IfOk answer (λ b. b ≡ true)
  pub cause : good ≡ true → IfErr answer NeverLost

-- one xorb was looked at
pub record LookCall (verify : Bool) (xorb : MerkleHash) (good : Store → Bool) (sb sa : ShelfTold) (tb ta : UploaderTold)
    (cb ca : Copied) (answer : Result Bool MirrorError) : Type 0 where
  pub puts : List Put
  pub step : Step verify sb sa tb ta puts answer
  pub xorbs_only : files_in puts ≡ []
  pub files : OnOk answer (SameFiles cb.report ca.report)
  pub looked : IfOk answer (λ b. b ≡ true → LooksAt cb ca (xorb ∷ []))
  pub told : (s t : Store) (ps : List Put) → Moment s t ps sb tb → IsCopying s t ps cb
      → LookTold s t ps puts xorb (good s) ca answer
  pub alone : (s : Store) → sb.store ≡ Some s → All (IsLookedFrom s) cb.xorbs → LookAlone s (good s) ca answer

-- over stores, the xorbs of terms were looked at: each term is from below to inside a xorb of `s`, or which one isn't
pub record TermsTold (s t : Store) (ps puts : List Put) (terms : List FileDataSequenceEntry) (ca : Copied)
    (answer : Result (Option ℕ) MirrorError) : Type 0 where
  pub log : IsLogOf s t (ps ++ puts)
  pub copying : OnOk answer (IsCopying s t (ps ++ puts) ca)
  pub is : IfOk answer (λ bad. MatchOption bad
      (All (λ e. is_term_in s (stored_term e) ≡ true) terms) (IsBadAt s t terms))
  pub cause : IfErr answer (LookCause s t (Contains (map (λ e. e.xorb) terms)))

-- each term is from below to inside a xorb of `s`
abbrev pub AllTermsIn : Store → List FileDataSequenceEntry → Type 0
AllTermsIn s terms = All (λ e. is_term_in s (stored_term e) ≡ true) terms

-- over the shelf's store alone, the xorbs of terms were looked at: they are the store's, and where each term is in one
-- of its xorbs, the answer is that, or another error
pub record TermsAlone (s : Store) (terms : List FileDataSequenceEntry) (ca : Copied)
    (answer : Result (Option ℕ) MirrorError) : Type 0 where
  pub records : OnOk answer (All (IsLookedFrom s) ca.xorbs)
  pub is : AllTermsIn s terms → IfOk answer (λ bad. bad ≡ None)
  pub cause : AllTermsIn s terms → IfErr answer NeverLost

-- the xorbs of terms were looked at
pub record TermsCall (verify : Bool) (terms : List FileDataSequenceEntry) (sb sa : ShelfTold) (tb ta : UploaderTold)
    (cb ca : Copied) (answer : Result (Option ℕ) MirrorError) : Type 0 where
  pub puts : List Put
  pub step : Step verify sb sa tb ta puts answer
  pub xorbs_only : files_in puts ≡ []
  pub files : OnOk answer (SameFiles cb.report ca.report)
  pub looked : IfOk answer (λ bad. bad ≡ None → LooksAt cb ca (map (λ e. e.xorb) terms))
  pub told : (s t : Store) (ps : List Put) → Moment s t ps sb tb → IsCopying s t ps cb
      → TermsTold s t ps puts terms ca answer
  pub alone : (s : Store) → sb.store ≡ Some s → All (IsLookedFrom s) cb.xorbs → TermsAlone s terms ca answer

-- the record is that of a file of `s`, and what is there has no such file
pub record IsNewFile (s t : Store) (ps : List Put) (file : MDBFileInfo) : Type 0 where
  pub stored : file_of s file.hash ≡ Some (file_of_record file)
  pub new : file_of (after t ps) file.hash ≡ None

-- over stores, a file was copied, each term of which is from below to inside a xorb of `s`
pub record CopyTold (s t : Store) (ps puts : List Put) (place : ℕ) (file : MDBFileInfo) (ca : Copied)
    (answer : Result (Unit {0}) MirrorError) : Type 0 where
  pub log : IsLogOf s t (ps ++ puts)
  pub copying : OnOk answer (IsCopying s t (ps ++ puts) ca)
  pub terms : OnOk answer (All (λ e. is_term_in s (stored_term e) ≡ true) file.entries)
  pub cause : IfErr answer (CopyCause s t place file)

-- over the shelf's store alone, a file was copied, or not for another error where each term is in one of its xorbs
pub record CopyAlone (s : Store) (file : MDBFileInfo) (ca : Copied) (answer : Result (Unit {0}) MirrorError)
    : Type 0 where
  pub records : OnOk answer (All (IsLookedFrom s) ca.xorbs)
  pub cause : AllTermsIn s file.entries → IfErr answer NeverLost

-- a file was copied: its record was put, after the xorbs that it names
pub record CopyCall (verify : Bool) (place : ℕ) (file : MDBFileInfo) (sb sa : ShelfTold) (tb ta : UploaderTold)
    (cb ca : Copied) (answer : Result (Unit {0}) MirrorError) : Type 0 where
  pub puts : List Put
  pub step : Step verify sb sa tb ta puts answer
  pub recorded : OnOk answer (files_in puts ≡ file ∷ [])
  pub files : OnOk answer (SameFiles (with_copied cb.report) ca.report)
  pub looked : OnOk answer (LooksAt cb ca (map (λ e. e.xorb) file.entries))
  pub told : (s t : Store) (ps : List Put) → Moment s t ps sb tb → IsCopying s t ps cb → IsNewFile s t ps file
      → CopyTold s t ps puts place file ca answer
  pub alone : (s : Store) → sb.store ≡ Some s → All (IsLookedFrom s) cb.xorbs → CopyAlone s file ca answer
