-- A file of those that the tracker keeps.
use Rattle.std.specs.Prelude.{ℕ, ◌+◌, false, List, slice_index_or}
use Rattle.xet_progress_state.specs.declared.file.TrackedFile.{TrackedFile}

-- the file of an id, or an empty one
abbrev pub file_in : List TrackedFile → ℕ → TrackedFile
file_in fs id = slice_index_or fs id (record { fixed = false; total = 0; registered = 0; completed = 0 })

-- a file with a greater total
abbrev pub with_growth : ℕ → TrackedFile → TrackedFile
with_growth n f = record f { total = f.total + n }
