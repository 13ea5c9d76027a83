-- Where a file is cut.
use Rattle.std.specs.Prelude.{ℕ, Bool, ◌||◌, min, max, if◌then◌else◌, nat_le, Option, Some, None}
use Rattle.xet_waiting.specs.Limits.{most_chunk_bytes}

-- a cutter of one size answers it, and none where fewer bytes are pending
abbrev pub fixed_cut : ℕ → ℕ → Option ℕ
fixed_cut size pending = if nat_le size pending then Some size else None

-- what is cut on a cutter's answer, of so many pending bytes: at least one byte, and at most what is pending and what a
-- chunk may have. Where the cutter waits, all that, if a whole chunk is pending or no more bytes come
abbrev pub clamped : Option ℕ → ℕ → Bool → Option ℕ
clamped (Some n) pending last = Some (min (max n 1) (min pending most_chunk_bytes))
clamped None pending last = if last || nat_le most_chunk_bytes pending
    then Some (min pending most_chunk_bytes)
    else None
