-- Texts of replies.
use Rattle.std.specs.Prelude.{ℕ, List, [], ◌∷◌, ◌++◌, length}
use Rattle.std.specs.Fmt.{decimal}

-- a word and a line end
abbrev pub word_line : List ℕ → List ℕ
word_line word = word ++ 10 ∷ []

-- a word, a space, a number and a line end
abbrev pub number_line : List ℕ → ℕ → List ℕ
number_line word n = word ++ 32 ∷ (decimal n ++ 10 ∷ [])

-- where bytes start and how many they are, on a line, and the bytes and a line end
abbrev pub bytes_text : ℕ → List ℕ → List ℕ
bytes_text start bytes = decimal start ++ 32 ∷ (decimal (length bytes) ++ 10 ∷ (bytes ++ 10 ∷ []))
