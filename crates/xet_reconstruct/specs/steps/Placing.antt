-- What making a file ready does to it.
use Rattle.std.specs.Prelude.{ℕ, ◌≡◌, ◌≤◌, Bool, false, cond, List, OnOk, OnErr, Result, IfErr, option_map}
use Rattle.xet_outside.specs.declared.sink.SinkError.{SinkError}
use Rattle.xet_outside.specs.Places.{IsWritten, PlaceCall, Placed, before_place, emptied, placed_of}
use Rattle.xet_outside.specs.Told.{SinkTold, Took}
use Rattle.xet_error.specs.declared.error.FileReconstructionError.{FileReconstructionError}
use Rattle.xet_writers.specs.Calls.{SinkCause}
use Rattle.xet_reconstruct.specs.ToFile.{IsLeft, StandAt, ready_at}

-- emptied where that is wanted, else as it is
abbrev pub cleared : Bool → Placed → Placed
cleared truncate p = cond truncate (emptied p) p

-- one such call; where it isn't wanted nothing changes
pub record ClearCall (truncate : Bool) (before after : SinkTold) (answer : Result (Unit {0}) SinkError) : Type 0 where
  pub call : PlaceCall before after (cleared truncate) answer
  pub same : truncate ≡ false → after ≡ before

-- from this moment on what a sink takes stands at its place
abbrev pub Follows : SinkTold → Type 0
Follows now = (later : SinkTold) (bytes : List ℕ) → Took now.took later.took bytes → later.link ≡ now.link
    → IsWritten now later bytes

-- the file was made ready, so that what it takes from here on stands at its place; or its error was answered
pub record ReadyCall (truncate : Bool) (place : ℕ) (before after : SinkTold)
    (answer : Result (Unit {0}) FileReconstructionError) : Type 0 where
  pub took : after.took ≡ before.took
  pub faults : before.faults ≤ after.faults
  pub unfailed : OnOk answer (after.faults ≡ before.faults)
  pub link : before_place after.link ≡ before_place before.link
  pub ready : OnOk answer ((later : SinkTold) (bytes : List ℕ) → Took after.took later.took bytes
      → later.link ≡ after.link → StandAt truncate place before later bytes)
  pub cause : IfErr answer (SinkCause before.faults after.faults)
  pub placed : OnOk answer (placed_of after ≡ option_map (ready_at truncate place) (placed_of before))
  pub left : OnErr answer (IsLeft truncate before after)
