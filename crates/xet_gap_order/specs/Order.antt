-- Where the next gap of a record may stand.
use Rattle.std.specs.Prelude.{ℕ, ◌+◌, Option, None, Some}

-- where the next gap starts at least, behind the last one's end
abbrev pub low_of : Option ℕ → ℕ
low_of None = 0
low_of (Some end) = end + 1
