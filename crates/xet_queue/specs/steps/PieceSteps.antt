-- The steps of the loops over pieces.
use Rattle.std.specs.Prelude.{ℕ, ◌≡◌, ◌<◌, ◌≤◌, List, length, take, Option, Result, OnOk, IfErr, IsErrOf}
use Rattle.xet_outside.specs.declared.sink.SinkError.{SinkError}
use Rattle.xet_outside.specs.declared.sink.SinkError.TheVariants as sink_error
use Rattle.xet_outside.specs.Told.{SinkTold, Took, Rose}

-- a write of a piece failed, which has bytes: a prefix was taken, and not all of it where memory was wanting
pub record StoppedPiece (before now : Option (List ℕ)) (piece : List ℕ) (e : SinkError) : Type 0 where
  pub count : ℕ
  pub some : 0 < length piece
  pub within : count ≤ length piece
  pub memory : e ≡ sink_error.OutOfMemory → count < length piece
  pub took : Took before now (take count piece)

-- the whole piece was taken, or a write of it failed
pub record WrotePiece (before after : SinkTold) (piece : List ℕ) (answer : Result (Unit {0}) SinkError) : Type 0 where
  pub took : OnOk answer (Took before.took after.took piece)
  pub part : IfErr answer (StoppedPiece before.took after.took piece)
  pub flushed : after.flushed ≡ before.flushed
  pub link : after.link ≡ before.link
  pub faults : before.faults ≤ after.faults
  pub failed : IsErrOf answer sink_error.Failed → Rose before.faults after.faults
  pub unfailed : OnOk answer (after.faults ≡ before.faults)
  pub short : IsErrOf answer sink_error.OutOfMemory → after.faults ≡ before.faults
