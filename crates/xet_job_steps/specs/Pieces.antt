-- Pieces of a source.
use Rattle.std.specs.Prelude.{ℕ, ◌≡◌, List, Option, Some, Ok}
use Rattle.xet_outside.specs.Told.{ReadCall, SourceTold}
use Rattle.xet_outside.specs.declared.source.SourceFault.{SourceFault}

-- one read answered how many bytes it took into the front of the buffer, and so many are ready
abbrev pub ReadsPiece : SourceTold → SourceTold → List ℕ → Option ℕ → Type 0
ReadsPiece s t buffer ready = (count : ℕ) × (ready ≡ Some count) × ReadCall {E = SourceFault} s t buffer (Ok count)
