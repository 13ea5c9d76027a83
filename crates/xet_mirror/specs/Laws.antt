-- Laws of mirrored files.
use Rattle.std.specs.Prelude.{ℕ, ◌≡◌, List, map, take, All, IsSome}
use Rattle.xet_base.specs.declared.cas_types.FileRange.{FileRange}
use Rattle.xet_base.specs.declared.merklehash.MerkleHash.{MerkleHash}
use Rattle.xet_base.specs.Store.{IsValid, Store, bytes_of, file_of, window}
use Rattle.xet_uploader.specs.StoresAfter.{files_in}
use Rattle.xet_uploader.specs.Uploads.{xorbs_in}
use Rattle.xet_uploader.specs.declared.uploader.Put.{Put}
use Rattle.xet_upload.specs.Orders.{IsOrdered}
use Rattle.xet_shelves.specs.After.{Agree, after}
use Rattle.xet_mirror_parts.specs.declared.report.MirrorReport.{MirrorReport}
use Rattle.xet_mirror_parts.specs.Copying.{IsSentFrom, IsShardOf, shards_in}
use Rattle.xet_mirror.specs.Calls.{IsBadTerm, IsMissingXorb}
use Rattle.xet_mirror.specs.Mirrored.{IsMirrored}

-- a mirrored file gives the same bytes in every range
abbrev pub MirroredGives : Type 0
MirroredGives = (s t : Store) (files : List MerkleHash) (puts : List Put) (report : MirrorReport)
    → IsMirrored s t files puts report → (r : FileRange)
    → All (λ f. IsSome (file_of s f) → window (after t puts) f r ≡ window s f r) files

-- what is there afterwards agrees with the shelf's store too, so that one may mirror again
abbrev pub MirroredAgrees : Type 0
MirroredAgrees = (s t : Store) (files : List MerkleHash) (puts : List Put) (report : MirrorReport)
    → IsValid s → IsValid t → Agree s t → All (IsSentFrom s t) (xorbs_in puts) → IsMirrored s t files puts report
    → Agree s (after t puts)

-- `t` with the puts is valid and agrees with `s`; a file that `t` had keeps its bytes, and one whose record was put is
-- there and gives those of `s`
pub record IsPartMirrored (s t : Store) (puts : List Put) : Type 0 where
  pub valid : IsValid (after t puts)
  pub agrees : Agree s (after t puts)
  pub kept : (f : MerkleHash) → IsSome (file_of t f) → bytes_of (after t puts) f ≡ bytes_of t f
  pub has : All (λ f. IsSome (file_of (after t puts) f.hash)) (files_in puts)
  pub bytes : All (λ f. bytes_of (after t puts) f.hash ≡ bytes_of s f.hash) (files_in puts)

-- wherever a call stopped, after any number of its puts, one may mirror again over what is there
abbrev pub StoppedAgrees : Type 0
StoppedAgrees = (s t : Store) (puts : List Put) (n : ℕ) → IsValid s → IsValid t → Agree s t
    → IsOrdered puts 0 (map (λ x. x.hash) t.xorbs) → All (IsSentFrom s t) (xorbs_in puts)
    → All (IsShardOf s) (shards_in puts) → IsPartMirrored s t (take n puts)

-- a valid store lacks no xorb that its files name, and none of its terms is a bad one
abbrev pub NoneMissing : Type 0
NoneMissing = (s t : Store) (files : List MerkleHash) (x : MerkleHash) → IsValid s → IsMissingXorb s t files x → ⊥

abbrev pub NoneBad : Type 0
NoneBad = (s t : Store) (files : List MerkleHash) (p e : ℕ) → IsValid s → IsBadTerm s t files p e → ⊥
