-- Pointer records at work.
use Rattle.std.specs.Prelude.{ℕ, List, Option, None, codes}
use Rattle.xet_pointer.specs.declared.xet_file_info.XetFileInfo.{XetFileInfo}

-- the record with hash `a`, and this size and SHA-256
abbrev pub of_a : Option ℕ → Option (List ℕ) → XetFileInfo
of_a size sha256 = record { hash = codes "a"; file_size = size; sha256 = sha256 }

-- the record with hash `a` and nothing else
abbrev pub a_alone : XetFileInfo
a_alone = of_a None None
