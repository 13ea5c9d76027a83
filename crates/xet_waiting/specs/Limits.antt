-- What a xorb and a chunk may have at most.
use Rattle.std.specs.Prelude.{ℕ}

-- how many bytes a chunk may have at most
abbrev pub most_chunk_bytes : ℕ
most_chunk_bytes = 131072

-- how many chunks a xorb may have at most
abbrev pub most_xorb_chunks : ℕ
most_xorb_chunks = 8192

-- how many bytes a xorb may have at most
abbrev pub most_xorb_bytes : ℕ
most_xorb_bytes = 67108864
