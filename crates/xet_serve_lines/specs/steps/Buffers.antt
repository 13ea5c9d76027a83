-- What working with a buffer does.
use Rattle.std.specs.Prelude.{ℕ, ◌≡◌, ◌+◌, ◌<◌, ◌≤◌, ◌==◌, ◌^◌, ◌&&◌, cond, List, [], ◌++◌, length, take}
use Rattle.std.specs.Prelude.{IfErr, IfOk, IfSome, None, Ok, OnErr, OnOk, Option, Result, Some, nat_lt}
use Rattle.std.specs.List.{position_or_len}
use Rattle.xet_outside.specs.Told.{Rose, SourceTold}
use Rattle.xet_serve_lines.specs.declared.cutting.Front.{Front}
use Rattle.xet_serve_lines.specs.declared.cutting.Front.TheVariants as front
use Rattle.xet_serve_lines.specs.declared.line_reader.LineFault.{LineFault}
use Rattle.xet_serve_lines.specs.declared.line_reader.LineFault.TheVariants as line_fault
use Rattle.xet_serve_lines.specs.Lines.{most_bytes}
use Rattle.xet_serve_lines.specs.Reading.{TookBytes}
use Rattle.xet_serve_lines.specs.Requests.{cut_at, number_of_digits}

-- how many bytes a reader holds at most
abbrev pub buffer_size : ℕ
buffer_size = 16384

-- the place of the first line end, or how many bytes there are
abbrev pub end_of : List ℕ → ℕ
end_of bytes = position_or_len (λ b. b == 10) bytes

-- what stands at the front of some bytes
abbrev pub FrontOf : List ℕ → Front → Type 0
FrontOf bytes (front.Line k) = (k ≡ end_of bytes) × (k < length bytes) × (k ≤ most_bytes)
FrontOf bytes front.TooLong = most_bytes < end_of bytes
FrontOf bytes front.Short = (end_of bytes ≡ length bytes) × (length bytes ≤ most_bytes)

-- one read behind the first so many bytes of a buffer
pub record ReadBehind (before after : SourceTold) (xs ys : List ℕ) (end most : ℕ) (answer : Result ℕ LineFault)
    : Type 0 where
  pub bytes : List ℕ
  pub count : IfOk answer (λ k. k ≡ length bytes)
  pub within : length bytes ≤ most
  pub none : OnErr answer (length bytes ≡ 0)
  pub why : IfErr answer (λ e. e ≡ line_fault.ReadFault)
  pub took : TookBytes before after bytes
  pub front : take (end + length bytes) ys ≡ take end xs ++ bytes
  pub last : answer ≡ Ok 0 → IfSome after.left (λ rest. rest ≡ [])
  pub failed : OnErr answer (Rose before.faults after.faults)
  pub unfailed : OnOk answer (after.faults ≡ before.faults)

-- the number of digits, where they are some and it is at most u64::MAX
abbrev pub digits_number : List ℕ → Option ℕ
digits_number text =
    cond (nat_lt 0 (length text) && nat_lt (number_of_digits text) (2 ^ 64)) (Some (number_of_digits text)) None

-- the first part of a text with commas, and what stands behind its comma, if there is one
abbrev pub first_by : List ℕ → Option (List ℕ × List ℕ) → List ℕ × Option (List ℕ)
first_by text None = (text, None)
first_by text (Some x) = (x.0, Some x.1)

abbrev pub first_part : List ℕ → List ℕ × Option (List ℕ)
first_part text = first_by text (cut_at 44 text)
