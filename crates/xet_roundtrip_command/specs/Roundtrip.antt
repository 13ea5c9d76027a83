-- The words of the command `roundtrip`, and what it prints.
use Rattle.std.specs.Prelude.{ℕ, ◌≡◌, ◌⊎◌, cond, nat_le, List, [], ◌∷◌, Option, Some, None, option_and_then}
use Rattle.xet_outside.specs.Told.{SinkTold}
use Rattle.xet_roundtrip.specs.Roundtrip.{IsRoundtrip}
use Rattle.xet_room.specs.declared.status.Status.{Status}
use Rattle.xet_room.specs.declared.status.Status.TheVariants.{Done, NoMemory}
use Rattle.xet_room.specs.Ends.{Told}
use Rattle.xet_room.specs.Numbers.{number_of_text}
use Rattle.xet_room.specs.Outcome.{Finished}
use Rattle.xet_room.specs.Texts.{line}

-- one number of at most 1,000,000
abbrev pub size_of : List (List ℕ) → Option ℕ
size_of (w ∷ []) = option_and_then (λ n. cond (nat_le n 1000000) (Some n) None) (number_of_text w)
size_of _ = None

-- a text of the round trip of so many bytes was printed with status 0, or `error memory`; or a prefix of one of these
-- where a write failed or memory ended. That the bytes differ never comes
abbrev pub RoundtripPrinted : ℕ → SinkTold → SinkTold → Status → Type 0
RoundtripPrinted size before after status =
    ((text : List ℕ) × IsRoundtrip size text × Finished text Done before after status)
    ⊎ Finished (line NoMemory) NoMemory before after status

-- `roundtrip` of so many bytes: nothing is read, and no tap is asked
pub record RoundtripOutcome (size : ℕ) (before after : Told) (status : Status) : Type 0 where
  pub unread : after.source ≡ before.source
  pub unasked : after.taps ≡ before.taps
  pub printed : RoundtripPrinted size before.sink after.sink status
