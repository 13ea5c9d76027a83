-- The ends that the program is given, and what was read of its input.
use Rattle.std.specs.Prelude.{ℕ, ◌≡◌, ◌<◌, ◌≤◌, List, [], length, Some}
use Rattle.xet_outside.specs.Told.{SinkTold, SourceTold}
use Rattle.xet_store.specs.Taps.{TapTold}

-- what the input, the output and the taps tell at one moment
pub record Told : Type 0 where
  pub source : SourceTold
  pub sink : SinkTold
  pub taps : List TapTold

-- how many bytes the input may have
abbrev pub input_limit : ℕ
input_limit = 67108864

-- the input was within the limit and was read to its end
abbrev pub WasReadToEnd : ℕ → SourceTold → SourceTold → Type 0
WasReadToEnd limit before after =
    (text : List ℕ) → before.left ≡ Some text → (length text ≤ limit) × (after.left ≡ Some [])

-- the input has more bytes than the limit
abbrev pub IsTooLong : ℕ → SourceTold → Type 0
IsTooLong limit before = (text : List ℕ) → before.left ≡ Some text → limit < length text
