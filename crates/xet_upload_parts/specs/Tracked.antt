-- What a tracker is told by the calls of a session, and when it refuses it.
use Rattle.std.specs.Prelude.{ℕ, ◌≡◌, ◌⊎◌, ◌<◌, cond, List, [], ◌∷◌, ◌++◌, length, take, Option, Some, None}
use Rattle.std.specs.Prelude.{Result, IfErr, OnErr, OnOk}
use Rattle.std.specs.List.{concat}
use Rattle.xet_base.specs.declared.invalid.Invalid.{Invalid}
use Rattle.xet_base.specs.declared.merklehash.MerkleHash.{MerkleHash}
use Rattle.xet_base.specs.declared.mdb_shard.Xorb.{Xorb}
use Rattle.xet_progress_state.specs.Accepted.{or_else, refusal_of}
use Rattle.xet_progress_state.specs.declared.step.FileXorbDependency.{FileXorbDependency}
use Rattle.xet_progress_state.specs.declared.step.TrackerStep.{TrackerStep}
use Rattle.xet_progress_state.specs.declared.step.TrackerStep.TheVariants.{RegisterDependencies, RegisterNewXorb}
use Rattle.xet_upload.specs.declared.data_error.DataError.{DataError}
use Rattle.xet_upload.specs.declared.data_error.DataError.TheVariants as data_error
use Rattle.xet_upload_parts.specs.HashLists.{has}

-- the refusal of the first call that is refused, where the calls are made one after another
abbrev pub first_refusal : List TrackerStep → List TrackerStep → Option Invalid
first_refusal before [] = None
first_refusal before (c ∷ cs) = or_else (refusal_of before c) (first_refusal (before ++ c ∷ []) cs)

-- an error is the refusal, or want of memory
abbrev pub IsRefusal : Option Invalid → DataError → Type 0
IsRefusal refusal e = (e ≡ data_error.OutOfMemory)
    ⊎ ((why : Invalid) × (refusal ≡ Some why) × (e ≡ data_error.InvalidOperation why))

-- the tracker accepted the first few of these calls: all of them on Ok, else not all, and the call says which refusal
-- came
pub record Tracks {A : Type 0} (before after calls : List TrackerStep) (answer : Result A DataError) : Type 0 where
  pub count : ℕ
  pub accepted : after ≡ before ++ take count calls
  pub ok : OnOk answer ((first_refusal before calls ≡ None) × (after ≡ before ++ calls))
  pub fewer : OnErr answer (count < length calls)
  pub err : IfErr answer (IsRefusal (first_refusal before calls))

-- the tracker is told of a xorb where none of its hash was put before, and then of what files have in xorbs
abbrev pub xorb_calls : List MerkleHash → Xorb → List FileXorbDependency → List TrackerStep
xorb_calls registered x ds = cond (has x.hash registered) (RegisterDependencies ds ∷ [])
    (RegisterNewXorb x.hash (length (concat x.chunks)) ∷ RegisterDependencies ds ∷ [])
