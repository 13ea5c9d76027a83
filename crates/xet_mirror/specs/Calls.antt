-- What one call that mirrors a list of files says.
use Rattle.std.specs.Prelude.{ℕ, ◌≡◌, ◌≢◌, ◌⊎◌, Bool, true, false, List, map, take, All, AllPairs, Contains, IsFalse}
use Rattle.std.specs.Prelude.{Some, IsNone, IsSome, slice_get, Result, IfOk, IfErr}
use Rattle.xet_base.specs.declared.merklehash.MerkleHash.{MerkleHash}
use Rattle.xet_base.specs.declared.stored.StoredTerm.{StoredTerm}
use Rattle.xet_base.specs.Digests.{infos_of, xorb_hash_of}
use Rattle.xet_base.specs.Hashes.{hash_eq}
use Rattle.xet_base.specs.Store.{IsValid, Store, chunks_of, file_of, terms_of_file, xorb_of}
use Rattle.xet_outside.specs.Told.{Rose}
use Rattle.xet_store.specs.Refusals.{is_term_in}
use Rattle.xet_uploader.specs.Uploads.{UploaderTold, xorbs_in}
use Rattle.xet_uploader.specs.declared.uploader.Put.{Put}
use Rattle.xet_upload.specs.Orders.{IsOrdered}
use Rattle.xet_shelves.specs.After.{Between, Shown}
use Rattle.xet_shelves.specs.Shelves.{ShelfTold}
use Rattle.xet_mirror_parts.specs.declared.report.MirrorError.{MirrorError}
use Rattle.xet_mirror_parts.specs.declared.report.MirrorError.TheVariants as mirror_error
use Rattle.xet_mirror_parts.specs.declared.report.MirrorReport.{MirrorReport}
use Rattle.xet_mirror_parts.specs.Copying.{IsSentFrom, IsShardOf, NeverLost, chunks_hash, shards_in}
use Rattle.xet_mirror_parts.specs.Moments.{Step}
use Rattle.xet_mirror.specs.Mirrored.{IsMirrored, copied_files, named_xorbs}

-- ---- causes

-- the listed file at this place is in neither store, and each before it is in one
pub record IsMissingFile (s t : Store) (files : List MerkleHash) (place : ℕ) : Type 0 where
  pub file : MerkleHash
  pub at : slice_get files place ≡ Some file
  pub missing : IsNone (file_of s file) × IsNone (file_of t file)
  pub before : All (λ f. IsSome (file_of s f) ⊎ IsSome (file_of t f)) (take place files)

-- a copied file names the xorb, which neither store has
pub record IsMissingXorb (s t : Store) (files : List MerkleHash) (xorb : MerkleHash) : Type 0 where
  pub named : Contains (named_xorbs s (copied_files t files)) xorb
  pub missing : IsNone (xorb_of s xorb) × IsNone (xorb_of t xorb)

-- a term of the file at this place, which `t` lacks, isn't from below to inside a xorb of `s`, and one of both has the
-- xorb that it names
pub record IsBadTerm (s t : Store) (files : List MerkleHash) (place entry : ℕ) : Type 0 where
  pub file : MerkleHash
  pub at : slice_get files place ≡ Some file
  pub copied : IsNone (file_of t file)
  pub term : StoredTerm
  pub term_at : slice_get (terms_of_file s file) entry ≡ Some term
  pub outside : is_term_in s term ≡ false
  pub known : IsSome (xorb_of s term.xorb) ⊎ IsSome (xorb_of t term.xorb)

-- a copied file names the xorb, which `s` has and `t` lacks, and its hash isn't that of its chunks
pub record IsMisnamed (s t : Store) (files : List MerkleHash) (xorb : MerkleHash) : Type 0 where
  pub named : Contains (named_xorbs s (copied_files t files)) xorb
  pub stored : IsSome (xorb_of s xorb)
  pub lacking : IsNone (xorb_of t xorb)
  pub differs : chunks_hash s xorb ≢ xorb

-- the cause of each error, by what the ends tell; want of memory is free
abbrev pub MirrorCause : Bool → List MerkleHash → ShelfTold → ShelfTold → UploaderTold → UploaderTold → MirrorError
    → Type 0
MirrorCause verify files sb sa tb ta mirror_error.OutOfMemory = Unit {0}
MirrorCause verify files sb sa tb ta mirror_error.ClientError = Rose sb.faults sa.faults ⊎ Rose tb.faults ta.faults
MirrorCause verify files sb sa tb ta (mirror_error.FileMissing place) =
    (s t : Store) → Shown s t sb tb → IsMissingFile s t files place
MirrorCause verify files sb sa tb ta (mirror_error.XorbMissing xorb) =
    (s t : Store) → Shown s t sb tb → IsMissingXorb s t files xorb
MirrorCause verify files sb sa tb ta (mirror_error.BadTerm place entry) =
    (s t : Store) → Shown s t sb tb → IsBadTerm s t files place entry
MirrorCause verify files sb sa tb ta (mirror_error.HashDiffers xorb) =
    (verify ≡ true) × ((s t : Store) → Shown s t sb tb → IsMisnamed s t files xorb)

-- ---- one call

pub record MirrorCall (verify : Bool) (files : List MerkleHash) (sb sa : ShelfTold) (tb ta : UploaderTold)
    (answer : Result MirrorReport MirrorError) : Type 0 where
  -- what was put, and each xorb of it has chunks; store and first store stay, no count falls, and on Ok none rose
  pub puts : List Put
  pub step : Step verify sb sa tb ta puts answer
  -- by itself it is in order, with the target's own xorbs known: no record before the xorbs that it names
  pub ordered : (s t : Store) → Between s t sb tb → IsOrdered puts 0 (map (λ x. x.hash) t.xorbs)
  -- each xorb that was put is the shelf's, none was the target's, and none was put twice
  pub sent : (s t : Store) → Between s t sb tb → All (IsSentFrom s t) (xorbs_in puts)
  pub once : (s t : Store) → Between s t sb tb → AllPairs (λ x y. IsFalse (hash_eq x.hash y.hash)) (xorbs_in puts)
  -- with `verify` each has the hash of its chunks
  pub verified : verify ≡ true → (s t : Store) → Between s t sb tb
      → All (λ h. xorb_hash_of (infos_of (chunks_of s h)) ≡ h) (map (λ x. x.hash) (xorbs_in puts))
  -- each shard that was put has the record of one file, and those of the xorbs that it names
  pub shards : (s t : Store) → Between s t sb tb → All (IsShardOf s) (shards_in puts)
  -- on Ok each listed file stands in the target
  pub mirrored : (s t : Store) → Between s t sb tb → IfOk answer (IsMirrored s t files puts)
  -- each error has its cause
  pub cause : IfErr answer (MirrorCause verify files sb sa tb ta)
  -- over a shelf that tells a valid store none is `XorbMissing` or `BadTerm`, whatever the target tells
  pub whole : (s : Store) → sb.store ≡ Some s → IsValid s → IfErr answer NeverLost
