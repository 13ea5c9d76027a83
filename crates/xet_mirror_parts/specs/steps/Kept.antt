-- What keeping one xorb does.
use Rattle.std.specs.Prelude.{◌≡◌, ◌≤◌, Bool, true, false, List, [], ◌∷◌, map, Result, Ok, Err, IfErr, IsErrOf, OnOk}
use Rattle.xet_base.specs.declared.mdb_shard.MDBFileInfo.{MDBFileInfo}
use Rattle.xet_base.specs.declared.mdb_shard.ShardRecord.{ShardRecord}
use Rattle.xet_base.specs.declared.merklehash.MerkleHash.{MerkleHash}
use Rattle.xet_base.specs.declared.mdb_shard.Xorb.{Xorb}
use Rattle.xet_outside.specs.Told.{Added, Rose}
use Rattle.xet_uploader.specs.Uploads.{UploaderTold}
use Rattle.xet_uploader.specs.declared.uploader.Put.{Put}
use Rattle.xet_uploader.specs.declared.uploader.Put.TheVariants as put
use Rattle.xet_mirror_parts.specs.declared.copied.Copied.{Copied}
use Rattle.xet_mirror_parts.specs.declared.copied.LookedXorb.{LookedXorb}
use Rattle.xet_mirror_parts.specs.declared.report.MirrorError.{MirrorError}
use Rattle.xet_mirror_parts.specs.declared.report.MirrorError.TheVariants as mirror_error
use Rattle.xet_mirror_parts.specs.Looked.{NoteCause, Notes, looked_records, with_copied}

-- a xorb that is held is not put, and none is after an error
abbrev pub kept_puts : {A : Type 0} → Result A MirrorError → Xorb → Bool → List Put
kept_puts (Ok a) x true = []
kept_puts (Ok a) x false = put.Xorb x ∷ []
kept_puts (Err e) x held = []

-- a failed call of the target, or why the xorb was not noted
abbrev pub KeepCause : Bool → Xorb → Bool → MirrorError → Type 0
KeepCause verify x held mirror_error.ClientError = Unit {0}
KeepCause verify x held mirror_error.OutOfMemory = Unit {0}
KeepCause verify x held (mirror_error.HashDiffers h) = NoteCause verify x held (mirror_error.HashDiffers h)
KeepCause verify x held (mirror_error.FileMissing p) = ⊥
KeepCause verify x held (mirror_error.XorbMissing h) = ⊥
KeepCause verify x held (mirror_error.BadTerm p e) = ⊥

-- the xorb was noted, and put where it is not held
pub record KeepCall (verify : Bool) (x : Xorb) (held : Bool) (tb ta : UploaderTold) (cb ca : Copied)
    (answer : Result (Unit {0}) MirrorError) : Type 0 where
  pub added : Added tb.puts ta.puts (kept_puts answer x held)
  pub first : ta.first ≡ tb.first
  pub faults : tb.faults ≤ ta.faults
  pub unfailed : OnOk answer (ta.faults ≡ tb.faults)
  pub client : IsErrOf answer mirror_error.ClientError → Rose tb.faults ta.faults
  pub notes : OnOk answer (Notes verify cb ca x held)
  pub cause : IfErr answer (KeepCause verify x held)

-- the answer where the shelf hasn't a xorb: whether the target holds it
abbrev pub lost : MerkleHash → Bool → Result Bool MirrorError
lost h true = Ok false
lost h false = Err (mirror_error.XorbMissing h)

-- the shard of a file, with the records of its xorbs
abbrev pub shard_with : List LookedXorb → MDBFileInfo → ShardRecord
shard_with xs file = record { xorbs = looked_records xs (map (λ e. e.xorb) file.entries); files = file ∷ [] }

-- an answer without a value puts one put where it is Ok
abbrev pub put_on : {A : Type 0} → Result A MirrorError → Put → List Put
put_on (Ok a) p = p ∷ []
put_on (Err e) p = []

-- want of memory, or a failed call
abbrev pub IsPlain : MirrorError → Type 0
IsPlain mirror_error.ClientError = Unit {0}
IsPlain mirror_error.OutOfMemory = Unit {0}
IsPlain (mirror_error.HashDiffers h) = ⊥
IsPlain (mirror_error.FileMissing p) = ⊥
IsPlain (mirror_error.XorbMissing h) = ⊥
IsPlain (mirror_error.BadTerm p e) = ⊥

-- the record was put and counted
pub record RecordCall (file : MDBFileInfo) (tb ta : UploaderTold) (cb ca : Copied)
    (answer : Result (Unit {0}) MirrorError) : Type 0 where
  pub added : Added tb.puts ta.puts (put_on answer (put.Shard (shard_with cb.xorbs file)))
  pub first : ta.first ≡ tb.first
  pub faults : tb.faults ≤ ta.faults
  pub unfailed : OnOk answer (ta.faults ≡ tb.faults)
  pub client : IsErrOf answer mirror_error.ClientError → Rose tb.faults ta.faults
  pub counted : OnOk answer (ca ≡ record cb { report = with_copied cb.report })
  pub cause : IfErr answer IsPlain
