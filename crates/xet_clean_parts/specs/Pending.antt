-- The bytes of a file that were not cut yet.
use Rattle.std.specs.Prelude.{ℕ, List, drop}
use Rattle.xet_clean_parts.specs.declared.pending_bytes.PendingBytes.{PendingBytes}

-- those behind the bytes that were cut
abbrev pub bytes_left : PendingBytes → List ℕ
bytes_left p = drop p.start p.buffer.items
