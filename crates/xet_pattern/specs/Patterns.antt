-- The bytes of a made file, and the lines that tell of it.
use Rattle.std.specs.Prelude.{ℕ, ◌%◌, List, [], ◌∷◌, ◌++◌, codes, map}
use Rattle.std.specs.Fmt.{decimal}
use Rattle.std.specs.List.{range_with_len}

-- byte p of the file is p mod 251
abbrev pub pattern : ℕ → List ℕ
pattern n = map (λ p. p % 251) (range_with_len 0 n)

-- a text, a line end, `ok` and a number, a line end
abbrev pub counted_lines : List ℕ → ℕ → List ℕ
counted_lines text n = text ++ 10 ∷ (codes "ok " ++ decimal n ++ 10 ∷ [])
