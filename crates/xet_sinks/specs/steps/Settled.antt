-- What sending the missing digit says.
use Rattle.std.specs.Prelude.{ℕ, ◌≡◌, ◌≤◌, Result, OnOk, IsErrOf, Bool, false}
use Rattle.xet_outside.specs.declared.sink.SinkError.{SinkError}
use Rattle.xet_outside.specs.declared.sink.SinkError.TheVariants as sink_error
use Rattle.xet_outside.specs.Told.{SinkTold, Rose}

-- nothing is told of it, and after an Ok no digit is missing
pub record Settled (before after : SinkTold) (at : ℕ) (stopped : Bool)
    (answer : Result (Unit {0}) SinkError) : Type 0 where
  pub took : after.took ≡ before.took
  pub flushed : after.flushed ≡ before.flushed
  pub link : after.link ≡ before.link
  pub faults : before.faults ≤ after.faults
  pub failed : IsErrOf answer sink_error.Failed → Rose before.faults after.faults
  pub unfailed : OnOk answer (after.faults ≡ before.faults)
  pub short : IsErrOf answer sink_error.OutOfMemory → after.faults ≡ before.faults
  pub whole : OnOk answer ((at ≡ 0) × (stopped ≡ false))
