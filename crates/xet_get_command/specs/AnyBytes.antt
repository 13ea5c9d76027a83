-- What `get` prints over any taps: the digits of some bytes, a line end, and the last line of a status.
use Rattle.std.specs.Prelude.{ℕ, List, length}
use Rattle.xet_outside.specs.Told.{Rose, SinkTold, Took, TookPrefix}
use Rattle.xet_room.specs.declared.status.Status.{Status}
use Rattle.xet_room.specs.declared.status.Status.TheVariants.{Done, NotFound, WriteFault, NoMemory, BadBlock}
use Rattle.xet_room.specs.declared.status.Status.TheVariants.{BadSettings}
use Rattle.xet_room.specs.Texts.{block_line, get_text, line, ok_line}

-- the last line after these bytes
abbrev pub last_line : Status → List ℕ → List ℕ
last_line Done bytes = ok_line (length bytes)
last_line (BadBlock number) bytes = block_line number
last_line status bytes = line status

-- a run can end with this status after some digits
abbrev pub IsOfRun : Status → Type 0
IsOfRun Done = Unit {0}
IsOfRun NotFound = Unit {0}
IsOfRun NoMemory = Unit {0}
IsOfRun (BadSettings e) = Unit {0}
IsOfRun (BadBlock number) = Unit {0}
IsOfRun _ = ⊥

-- some bytes of which this holds at a status
pub record BytesOf (P : Status → List ℕ → Type 0) (status : Status) : Type 0 where
  pub bytes : List ℕ
  pub from : P status bytes

-- the text with that status
abbrev pub text_of : {P : Status → List ℕ → Type 0} → (status : Status) → BytesOf P status → List ℕ
text_of status b = get_text b.bytes (last_line status b.bytes)

-- such a text, cut off
pub record AnyCut (P : Status → List ℕ → Type 0) (before after : SinkTold) : Type 0 where
  pub status : Status
  pub of_run : IsOfRun status
  pub some : BytesOf P status
  pub took : TookPrefix before.took after.took (text_of status some)

-- what was printed, by the status
abbrev pub AnyGet : (Status → List ℕ → Type 0) → SinkTold → SinkTold → Status → Type 0
AnyGet P before after Done = (b : BytesOf P Done) × Took before.took after.took (text_of Done b)
AnyGet P before after NotFound = (b : BytesOf P NotFound) × Took before.took after.took (text_of NotFound b)
AnyGet P before after (BadSettings e) =
    (b : BytesOf P (BadSettings e)) × Took before.took after.took (text_of (BadSettings e) b)
AnyGet P before after WriteFault = Rose before.faults after.faults × AnyCut P before after
AnyGet P before after NoMemory = AnyCut P before after
AnyGet P before after (BadBlock k) = (b : BytesOf P (BadBlock k)) × Took before.took after.took (text_of (BadBlock k) b)
AnyGet P before after _ = ⊥
