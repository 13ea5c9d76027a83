-- What a reader of lines holds, and what its calls do.
use Rattle.std.specs.Prelude.{ℕ, ◌≡◌, ◌⊎◌, ◌+◌, ◌<◌, ◌≤◌, List, [], ◌∷◌, ◌++◌, length, IfOk, IfSome, OnOk, Err, Ok}
use Rattle.std.specs.Prelude.{Result, option_map}
use Rattle.xet_outside.specs.Told.{Rose, SourceTold}
use Rattle.xet_serve_lines.specs.declared.line_reader.Cut.{Cut}
use Rattle.xet_serve_lines.specs.declared.line_reader.Cut.TheVariants as cut
use Rattle.xet_serve_lines.specs.declared.line_reader.LineFault.{LineFault}
use Rattle.xet_serve_lines.specs.declared.line_reader.LineFault.TheVariants as line_fault
use Rattle.xet_serve_lines.specs.Lines.{HasNoEnd, most_bytes, session_limit}

-- the line that was taken off last, the bytes that were read behind it, and how many bytes were read
pub record Held : Type 0 where
  pub line : List ℕ
  pub pending : List ℕ
  pub read : ℕ

-- these bytes were taken from what was left
abbrev pub TookBytes : SourceTold → SourceTold → List ℕ → Type 0
TookBytes before after bytes = before.left ≡ option_map (λ rest. bytes ++ rest) after.left

-- ---- lines

-- a line that isn't too long was taken off, with its line end
pub record TookLine (h i : Held) : Type 0 where
  pub is : h.pending ≡ i.line ++ 10 ∷ i.pending
  pub whole : HasNoEnd i.line
  pub short : length i.line ≤ most_bytes
  pub read : i.read ≡ h.read

-- bytes have less than a line
pub record HasNoLine (bytes : List ℕ) : Type 0 where
  pub none : HasNoEnd bytes
  pub short : length bytes ≤ most_bytes

-- they begin with more bytes of a line than it may have
pub record BeginsLong (bytes : List ℕ) : Type 0 where
  pub front : List ℕ
  pub more : List ℕ
  pub is : bytes ≡ front ++ more
  pub whole : HasNoEnd front
  pub long : most_bytes < length front

-- one call of `cut`
abbrev pub CutCall : Held → Held → Cut → Type 0
CutCall h i cut.Line = TookLine h i
CutCall h i cut.TooLong = BeginsLong h.pending × (i ≡ h)
CutCall h i cut.Short = HasNoLine h.pending × (i ≡ h)

-- all bytes were taken off as a line
pub record TookRest (h i : Held) : Type 0 where
  pub line : i.line ≡ h.pending
  pub pending : i.pending ≡ []
  pub read : i.read ≡ h.read

-- ---- bytes

-- one call of `fill`, with the bytes that were read
pub record FillCall (before after : SourceTold) (h i : Held) (answer : Result ℕ LineFault) : Type 0 where
  pub bytes : List ℕ
  pub took : TookBytes before after bytes
  pub pending : i.pending ≡ h.pending ++ bytes
  pub read : i.read ≡ h.read + length bytes
  pub count : IfOk answer (λ k. k ≡ length bytes)
  pub within : OnOk answer (i.read ≤ session_limit)
  pub end : answer ≡ Ok 0 → IfSome after.left (λ rest. rest ≡ [])
  pub fault : answer ≡ Err line_fault.ReadFault → Rose before.faults after.faults × (length bytes ≡ 0)
  pub limit : answer ≡ Err line_fault.InputLimit → session_limit < i.read
  pub unfailed : (after.faults ≡ before.faults) ⊎ (answer ≡ Err line_fault.ReadFault)
