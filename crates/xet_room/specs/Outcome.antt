-- What is printed with a status, what is flushed, and what failed.
use Rattle.std.specs.Prelude.{ℕ, ◌≡◌, ◌⊎◌, List, length, option_map}
use Rattle.xet_outside.specs.declared.sink.SinkError.{SinkError}
use Rattle.xet_outside.specs.declared.sink.SinkError.TheVariants as sink_error
use Rattle.xet_outside.specs.Told.{Rose, SinkTold, SourceTold, Took, TookPrefix}
use Rattle.xet_room.specs.declared.status.Status.{Status}
use Rattle.xet_room.specs.declared.status.Status.TheVariants.{ReadFault, WriteFault, NoMemory}
use Rattle.xet_room.specs.Ends.{Told}

-- the status after a failed write
abbrev pub status_of : SinkError → Status
status_of sink_error.OutOfMemory = NoMemory
status_of sink_error.Failed = WriteFault

-- a text was printed with a status, or a prefix of it where a write failed or memory ended
abbrev pub Finished : List ℕ → Status → SinkTold → SinkTold → Status → Type 0
Finished text whole before after status =
    ((status ≡ whole) × Took before.took after.took text)
    ⊎ ((status ≡ WriteFault) × Rose before.faults after.faults × TookPrefix before.took after.took text)
    ⊎ ((status ≡ NoMemory) × TookPrefix before.took after.took text)

-- a text that is printed whatever the input, with a status; nothing is read, and no tap is asked
pub record TextOutcome (text : List ℕ) (whole : Status) (before after : Told) (status : Status) : Type 0 where
  pub unread : after.source ≡ before.source
  pub unasked : after.taps ≡ before.taps
  pub text_is : Finished text whole before.sink after.sink status

-- unless a write failed or memory ended, all that was taken is flushed
abbrev pub IsFlushed : Status → SinkTold → Type 0
IsFlushed status after = (after.flushed ≡ option_map length after.took) ⊎ (status ≡ WriteFault) ⊎ (status ≡ NoMemory)

-- unless the status says that a write failed, or memory ended, no call of the output failed, by its count of faults
abbrev pub IsUnfailed : Status → SinkTold → SinkTold → Type 0
IsUnfailed status before after = (after.faults ≡ before.faults) ⊎ (status ≡ WriteFault) ⊎ (status ≡ NoMemory)

-- a call of the output failed only where the status is that a write failed: it is never told as want of memory
abbrev pub TellsFault : Status → SinkTold → SinkTold → Type 0
TellsFault status before after = (after.faults ≡ before.faults) ⊎ (status ≡ WriteFault)

-- nor did a read of the input, unless the status says so, or a write failed, or memory ended
abbrev pub IsReadUnfailed : Status → SourceTold → SourceTold → Type 0
IsReadUnfailed status before after = (after.faults ≡ before.faults) ⊎ (status ≡ ReadFault) ⊎ (status ≡ WriteFault)
    ⊎ (status ≡ NoMemory)
