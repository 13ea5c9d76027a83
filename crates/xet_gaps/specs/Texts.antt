-- The text of a record of gaps.
use Rattle.std.specs.Prelude.{ℕ, ◌≡◌, List, [], ◌∷◌, ◌++◌, codes}
use Rattle.std.specs.Fmt.{decimal}
use Rattle.std.specs.List.{flat_map}
use Rattle.hex.specs.Hex.{encode_lower}
use Rattle.xet_base.specs.declared.cas_types.FileRange.{FileRange}
use Rattle.xet_base.specs.declared.merklehash.MerkleHash.{MerkleHash}
use Rattle.xet_gaps.specs.Gaps.{Gaps, IsGapRecord}

-- two words with one space between and a line end
abbrev pub line_of : List ℕ → List ℕ → List ℕ
line_of a b = a ++ 32 ∷ (b ++ 10 ∷ [])

-- a gap: its start and its end, in decimals without leading zeros
abbrev pub gap_line : FileRange → List ℕ
gap_line g = line_of (decimal g.start) (decimal g.end)

-- the version, and the file's hash and length
abbrev pub head_text : MerkleHash → ℕ → List ℕ
head_text file n = codes "xet-gaps 1" ++ 10 ∷ line_of (encode_lower file.0) (decimal n)

-- these, and the gaps, a line each
abbrev pub record_text : Gaps → List ℕ
record_text g = head_text g.file g.length_is ++ flat_map gap_line g.gaps

-- the text is no record's
abbrev pub IsNoText : List ℕ → Type 0
IsNoText text = (g : Gaps) → IsGapRecord g → text ≡ record_text g → ⊥
