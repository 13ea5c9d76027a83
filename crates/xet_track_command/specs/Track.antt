-- What each status of the command `track` says.
use Rattle.std.specs.Prelude.{ℕ, ◌≡◌, ◌⊎◌, true, false, List, [], ◌∷◌, ◌++◌, Some}
use Rattle.xet_outside.specs.Told.{Rose, SinkTold, Took, TookPrefix}
use Rattle.xet_track.specs.Texts.{track_reads, track_text}
use Rattle.xet_room.specs.declared.status.Status.{Status}
use Rattle.xet_room.specs.declared.status.Status.TheVariants.{Done, BadScript, ReadFault, WriteFault, NoMemory, TooLong}
use Rattle.xet_room.specs.Ends.{IsTooLong, Told, WasReadToEnd}
use Rattle.xet_room.specs.Texts.{line}

-- ---- what is printed of a script

-- some first lines of the script's text, each whole
pub record FirstLines (script lines : List ℕ) : Type 0 where
  pub rest : List ℕ
  pub first : lines ++ rest ≡ track_text script
  pub whole : (lines ≡ []) ⊎ ((front : List ℕ) × (lines ≡ front ++ 10 ∷ []))

-- where a write failed or memory ended: a prefix of the script's text, or of some first lines and `error memory`
abbrev pub IsCutScript : List ℕ → SinkTold → SinkTold → Type 0
IsCutScript script before after =
    TookPrefix before.took after.took (track_text script)
    ⊎ ((lines : List ℕ) × FirstLines script lines × TookPrefix before.took after.took (lines ++ line NoMemory))

-- by the status: the whole text with 0 and 2
abbrev pub ScriptFrom : List ℕ → SinkTold → SinkTold → Status → Type 0
ScriptFrom script before after Done = (track_reads script ≡ true) × Took before.took after.took (track_text script)
ScriptFrom script before after BadScript =
    (track_reads script ≡ false) × Took before.took after.took (track_text script)
ScriptFrom script before after WriteFault = Rose before.faults after.faults × IsCutScript script before after
ScriptFrom script before after NoMemory = IsCutScript script before after
ScriptFrom script before after _ = ⊥

-- ---- the statuses

-- the input was read to its end, and is this script
pub record OverScript (limit : ℕ) (script : List ℕ) (before after : Told) : Type 0 where
  pub read : WasReadToEnd limit before.source after.source
  pub script_is : (text : List ℕ) → before.source.left ≡ Some text → script ≡ text

-- 0, and 2 where a line doesn't read: what the script prints was printed
pub record TrackRun (limit : ℕ) (before after : Told) (status : Status) : Type 0 where
  pub script : List ℕ
  pub over : OverScript limit script before after
  pub from : ScriptFrom script before.sink after.sink status

-- 4: the input failed
pub record TrackReadFault (before after : Told) : Type 0 where
  pub rose : Rose before.source.faults after.source.faults
  pub took : Took before.sink.took after.sink.took (line ReadFault)

-- 8: the input is longer than the limit
pub record TrackTooLong (limit : ℕ) (before after : Told) : Type 0 where
  pub too_long : IsTooLong limit before.source
  pub took : Took before.sink.took after.sink.took (line TooLong)

-- a script that was cut off
pub record TrackCut (limit : ℕ) (before after : Told) : Type 0 where
  pub script : List ℕ
  pub over : OverScript limit script before after
  pub cut : IsCutScript script before.sink after.sink

-- what was printed where a write failed or memory ended, of any input
abbrev pub IsCutTrack : ℕ → Told → Told → Type 0
IsCutTrack limit before after =
    TookPrefix before.sink.took after.sink.took (line NoMemory)
    ⊎ (Rose before.source.faults after.source.faults × TookPrefix before.sink.took after.sink.took (line ReadFault))
    ⊎ (IsTooLong limit before.source × TookPrefix before.sink.took after.sink.took (line TooLong))
    ⊎ TrackCut limit before after

abbrev pub TrackStatus : ℕ → Told → Told → Status → Type 0
TrackStatus limit before after Done = TrackRun limit before after Done
TrackStatus limit before after BadScript = TrackRun limit before after BadScript
TrackStatus limit before after ReadFault = TrackReadFault before after
TrackStatus limit before after WriteFault = Rose before.sink.faults after.sink.faults × IsCutTrack limit before after
TrackStatus limit before after NoMemory = IsCutTrack limit before after
TrackStatus limit before after TooLong = TrackTooLong limit before after
TrackStatus limit before after _ = ⊥

-- `track` over an input, by its status; no tap is asked
pub record TrackOutcome (limit : ℕ) (before after : Told) (status : Status) : Type 0 where
  pub unasked : after.taps ≡ before.taps
  pub by_status : TrackStatus limit before after status
