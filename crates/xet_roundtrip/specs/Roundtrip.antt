-- The file that `roundtrip` sends and gets back, and what is printed of it.
use Rattle.std.specs.Prelude.{ℕ, ◌≡◌, List}
use Rattle.xet_clean_parts.specs.Places.{IsInChunks}
use Rattle.xet_pattern.specs.Patterns.{counted_lines, pattern}
use Rattle.xet_pointer.specs.Pointers.{pointer_text}
use Rattle.xet_upload_laws.specs.Sending.{content_pointer}

-- what is printed of the file of so many bytes, which is cut into chunks of 1000 bytes: the text of its pointer record,
-- a line end, `ok` and the number of bytes, a line end
pub record IsRoundtrip (n : ℕ) (text : List ℕ) : Type 0 where
  pub chunks : List (List ℕ)
  pub cut : IsInChunks 1000 (pattern n) chunks
  pub text_is : text ≡ counted_lines (pointer_text (content_pointer n chunks)) n
