-- How the sink below a buffer stands.
use Rattle.std.specs.Prelude.{ℕ, ◌≡◌, ◌≤◌, List, [], length, take, Option, Result, OnOk, IsErrOf, Bool, false}
use Rattle.xet_outside.specs.declared.sink.SinkError.{SinkError}
use Rattle.xet_outside.specs.declared.sink.SinkError.TheVariants as sink_error
use Rattle.xet_outside.specs.Told.{SinkTold, Took, Rose}
use Rattle.xet_sinks.specs.HexText.{steps}

-- the sink below took so many bytes of the buffer since it was begun; after a fault some first ones
pub record Held (known now : Option (List ℕ)) (buffer : List ℕ) (out : ℕ) (stopped : Bool) : Type 0 where
  pub within : out ≤ length buffer
  pub wrote : stopped ≡ false → Took known now (take out buffer)
  pub short : steps known now ≤ length buffer
  pub front : Took known now (take (steps known now) buffer)

-- writing the buffer out: nothing is told of it, and after an Ok it is empty and nothing failed
pub record WroteOut (before after : SinkTold) (buffer : List ℕ) (out : ℕ) (stopped : Bool)
    (answer : Result (Unit {0}) SinkError) : Type 0 where
  pub took : after.took ≡ before.took
  pub flushed : after.flushed ≡ before.flushed
  pub link : after.link ≡ before.link
  pub faults : before.faults ≤ after.faults
  pub failed : IsErrOf answer sink_error.Failed → Rose before.faults after.faults
  pub unfailed : OnOk answer (after.faults ≡ before.faults)
  pub short : IsErrOf answer sink_error.OutOfMemory → after.faults ≡ before.faults
  pub empty : OnOk answer ((buffer ≡ []) × (out ≡ 0))
  pub whole : OnOk answer (stopped ≡ false)
