-- What a loop of writes leaves in a sink.
use Rattle.std.specs.Prelude.{ℕ, ◌≡◌, ◌≤◌, List, Result, OnOk, OnErr, IsErrOf}
use Rattle.xet_outside.specs.declared.sink.SinkError.{SinkError}
use Rattle.xet_outside.specs.declared.sink.SinkError.TheVariants as sink_error
use Rattle.xet_outside.specs.Told.{SinkTold, Took, TookPrefix, Rose}

-- the whole piece was taken, or after an error a prefix of it
pub record WroteAll (before after : SinkTold) (piece : List ℕ) (answer : Result (Unit {0}) SinkError) : Type 0 where
  pub took : OnOk answer (Took before.took after.took piece)
  pub prefix : OnErr answer (TookPrefix before.took after.took piece)
  pub flushed : after.flushed ≡ before.flushed
  pub link : after.link ≡ before.link
  pub faults : before.faults ≤ after.faults
  pub failed : IsErrOf answer sink_error.Failed → Rose before.faults after.faults
  pub unfailed : OnOk answer (after.faults ≡ before.faults)
  pub short : IsErrOf answer sink_error.OutOfMemory → after.faults ≡ before.faults
