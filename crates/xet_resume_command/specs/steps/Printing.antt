-- What is printed of a store.
use Rattle.std.specs.Prelude.{ℕ, ◌⊎◌, ◌++◌, List, ◌∷◌}
use Rattle.hex.specs.Hex.{encode_lower}
use Rattle.xet_outside.specs.Told.{SinkTold}
use Rattle.xet_gaps.specs.Gaps.{Gaps}
use Rattle.xet_gaps.specs.Texts.{record_text}
use Rattle.xet_room.specs.declared.status.Status.{Status}
use Rattle.xet_room.specs.Inputs.{MemoryPrinted}
use Rattle.xet_room.specs.Outcome.{Finished}
use Rattle.xet_room.specs.Texts.{ok_line}

-- this text was printed with its status, or `error memory`
abbrev pub OnePrinted : List ℕ → Status → SinkTold → SinkTold → Status → Type 0
OnePrinted whole end b n status = Finished whole end b n status ⊎ MemoryPrinted b n status

-- the text of a record, and how many bytes were fetched
abbrev pub last_lines : Gaps → ℕ → List ℕ
last_lines gaps count = record_text gaps ++ ok_line count

-- the digits of a content, a line end, and these
abbrev pub filled_text : List ℕ → Gaps → ℕ → List ℕ
filled_text content gaps count = encode_lower content ++ 10 ∷ last_lines gaps count
