-- The replies to the lines of a session over a store.
use Rattle.std.specs.Prelude.{ℕ, ◌-◌, ◌&&◌, Bool, false, cond, List, [], ◌∷◌, ◌++◌, length, Option, Some, None, codes}
use Rattle.std.specs.Prelude.{is_none, nat_lt, position}
use Rattle.std.specs.List.{flat_map, list_any}
use Rattle.xet_base.specs.declared.cas_types.FileRange.{FileRange}
use Rattle.xet_base.specs.declared.merklehash.MerkleHash.{MerkleHash}
use Rattle.xet_base.specs.Store.{Store, file_of, window}
use Rattle.xet_serve_lines.specs.Lines.{is_quit, is_too_long, lines_of}
use Rattle.xet_serve_lines.specs.Replies.{bytes_text, number_line, word_line}
use Rattle.xet_serve_lines.specs.Requests.{Asked, request_of}

-- ---- one line

-- the bytes of a range: where it starts, how many they are, and the bytes themselves
abbrev pub range_text : Store → MerkleHash → FileRange → List ℕ
range_text s file r = bytes_text r.start (window s file r)

-- those of all ranges, behind their number
abbrev pub ok_text : Store → Asked → List ℕ
ok_text s q = number_line (codes "OK") (length q.ranges) ++ flat_map (range_text s q.file) q.ranges

-- a range with more bytes than one reply gives
abbrev pub is_long : FileRange → Bool
is_long r = nat_lt 1048576 (r.end - r.start)

-- a range that has bytes
abbrev pub has_bytes : FileRange → Bool
has_bytes r = nat_lt r.start r.end

-- bytes of a file that isn't stored are asked for
abbrev pub asks_missing : Store → Asked → Bool
asks_missing s q = is_none (file_of s q.file) && list_any has_bytes q.ranges

-- the reply of the runs
abbrev pub run_reply : Store → Asked → List ℕ
run_reply s q = cond (asks_missing s q) (word_line (codes "NONE")) (ok_text s q)

-- the reply to a request, with its first range that is too long
abbrev pub range_reply : Store → Asked → Option ℕ → List ℕ
range_reply s q (Some i) = number_line (codes "LONG") i
range_reply s q None = run_reply s q

abbrev pub request_reply : Store → Option Asked → List ℕ
request_reply s (Some q) = range_reply s q (position is_long q.ranges)
request_reply s None = word_line (codes "BAD")

-- the reply to a line
abbrev pub reply : Store → List ℕ → List ℕ
reply s line = cond (is_quit line) (word_line (codes "BYE")) (request_reply s (request_of line))

-- a line whose reply runs give
abbrev pub is_run_request : Option Asked → Bool
is_run_request (Some q) = is_none (position is_long q.ranges)
is_run_request None = false

abbrev pub is_run : List ℕ → Bool
is_run line = is_run_request (request_of line)

-- ---- a session

-- the lines that are answered: up to and with the first that ends the session
abbrev pub served_lines : List (List ℕ) → List (List ℕ)
served_lines [] = []
served_lines (l ∷ ls) = cond (is_quit l) (l ∷ []) (l ∷ served_lines ls)

-- the replies in order, and `OVER` in place of that to a line that is too long, with nothing behind it
abbrev pub replies_to : Store → List (List ℕ) → List ℕ
replies_to s [] = []
replies_to s (l ∷ ls) = cond (is_too_long l) (word_line (codes "OVER")) (reply s l ++ replies_to s ls)

abbrev pub replies : Store → List ℕ → List ℕ
replies s bytes = replies_to s (served_lines (lines_of bytes))
