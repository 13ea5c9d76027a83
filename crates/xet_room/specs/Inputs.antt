-- What a command prints that reads its input to its end.
use Rattle.std.specs.Prelude.{ℕ, ◌≡◌, ◌⊎◌, ◌≤◌, List, length, Some}
use Rattle.xet_outside.specs.Told.{Rose, SinkTold, SourceTold}
use Rattle.xet_room.specs.declared.status.Status.{Status}
use Rattle.xet_room.specs.declared.status.Status.TheVariants.{ReadFault, NoMemory, TooLong}
use Rattle.xet_room.specs.Ends.{IsTooLong, Told, WasReadToEnd}
use Rattle.xet_room.specs.Outcome.{Finished}
use Rattle.xet_room.specs.Texts.{line}

-- what a command has to print: by the text of its input, a status and the whole text that comes with it
abbrev pub Prints : Type 1
Prints = List ℕ → Status → List ℕ → Type 0

-- the input was read to its end, and has this text, which is within the limit
pub record OverInput (limit : ℕ) (text : List ℕ) (before after : SourceTold) : Type 0 where
  pub most : length text ≤ limit
  pub read : WasReadToEnd limit before after
  pub text_is : (t : List ℕ) → before.left ≡ Some t → text ≡ t

-- `error memory` was printed, or a prefix of it where a write failed or memory ended
abbrev pub MemoryPrinted : SinkTold → SinkTold → Status → Type 0
MemoryPrinted before after status = Finished (line NoMemory) NoMemory before after status

-- of an input that was not read to its end: `error read` where a read failed, `error input` where it is too long, or
-- `error memory`; or a prefix of one of these where a write failed or memory ended
abbrev pub UnreadPrinted : ℕ → SourceTold → SourceTold → SinkTold → SinkTold → Status → Type 0
UnreadPrinted limit source left before after status =
    (Rose source.faults left.faults × Finished (line ReadFault) ReadFault before after status)
    ⊎ (IsTooLong limit source × Finished (line TooLong) TooLong before after status)
    ⊎ MemoryPrinted before after status

-- where there are some texts, by their statuses: one of them with its status, or `error memory`; or a prefix of one of
-- these where a write failed or memory ended
abbrev pub SomePrinted : (Status → List ℕ → Type 0) → SinkTold → SinkTold → Status → Type 0
SomePrinted P before after status =
    ((own : Status) × (whole : List ℕ) × P own whole × Finished whole own before after status)
    ⊎ MemoryPrinted before after status

-- of a text: what the command has to print
abbrev pub TextPrinted : Prints → List ℕ → SinkTold → SinkTold → Status → Type 0
TextPrinted P text before after status = SomePrinted (P text) before after status

-- of any input: what kept it from being read, or what the command prints of its text
abbrev pub InputPrinted : Prints → ℕ → Told → Told → Status → Type 0
InputPrinted P limit before after status =
    UnreadPrinted limit before.source after.source before.sink after.sink status
    ⊎ ((text : List ℕ) × OverInput limit text before.source after.source
    × TextPrinted P text before.sink after.sink status)

-- a command over an input, by what it has to print; no tap is asked
pub record InputOutcome (P : Prints) (limit : ℕ) (before after : Told) (status : Status) : Type 0 where
  pub unasked : after.taps ≡ before.taps
  pub printed : InputPrinted P limit before after status
