-- What the loop over one piece of digits leaves in a sink.
use Rattle.std.specs.Prelude.{ℕ, ◌≡◌, ◌<◌, ◌≤◌, List, length, take, Option}
use Rattle.xet_outside.specs.Told.{SinkTold, Took, TookPrefix, Rose}
use Rattle.xet_sinks.specs.declared.pushing.Sent.{Sent}
use Rattle.xet_sinks.specs.declared.pushing.Sent.TheVariants.{Whole, Memory, Fault}

-- the bytes of the piece that went out
abbrev pub TookSo : Option (List ℕ) → Option (List ℕ) → List ℕ → Sent → Type 0
TookSo before after piece Whole = Took before after piece
TookSo before after piece (Memory k) = (k < length piece) × Took before after (take k piece)
TookSo before after piece Fault = TookPrefix before after piece

-- only a fault leaves another count of faults
abbrev pub KeepsFaults : ℕ → ℕ → Sent → Type 0
KeepsFaults before after Whole = after ≡ before
KeepsFaults before after (Memory k) = after ≡ before
KeepsFaults before after Fault = Unit {0}

-- what the loop over one piece did
pub record Pushed (before after : SinkTold) (piece : List ℕ) (answer : Sent) : Type 0 where
  pub took : TookSo before.took after.took piece answer
  pub flushed : after.flushed ≡ before.flushed
  pub link : after.link ≡ before.link
  pub faults : before.faults ≤ after.faults
  pub failed : answer ≡ Fault → Rose before.faults after.faults
  pub unfailed : KeepsFaults before.faults after.faults answer
