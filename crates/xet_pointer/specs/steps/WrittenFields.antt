-- The fields of a pointer file's text.
use Rattle.std.specs.Prelude.{ℕ, List, [], ◌++◌, Option, Some, None, codes, decimal}
use Rattle.serde_json.specs.Data.{string}
use Rattle.serde_json.specs.Written.{compact_text}

-- what stands in the text for a size, which may be none
abbrev pub size_text : Option ℕ → List ℕ
size_text None = []
size_text (Some n) = codes ",\"file_size\":" ++ decimal n

-- what stands in the text for a SHA-256, which may be none
abbrev pub sha256_text : Option (List ℕ) → List ℕ
sha256_text None = []
sha256_text (Some s) = codes ",\"sha256\":" ++ compact_text (string s)
