-- What reading a text piece by piece answers.
use Rattle.std.specs.Prelude.{ℕ, ◌≡◌, ◌+◌, ◌<◌, ◌^◌, List, ◌∷◌, ◌++◌, length, All, Option}
use Rattle.std.specs.Fmt.{decimal}
use Rattle.std.specs.List.{flat_map}
use Rattle.hex.specs.Hex.{encode_lower}
use Rattle.xet_base.specs.declared.cas_types.FileRange.{FileRange}
use Rattle.xet_base.specs.declared.merklehash.MerkleHash.{MerkleHash}
pub use Rattle.xet_gap_order.specs.Order.{low_of}
use Rattle.xet_gaps.specs.Gaps.{AreGaps}
use Rattle.xet_gaps.specs.Texts.{gap_line, head_text}

-- the text doesn't begin with a number and this letter
abbrev pub NoNumber : ℕ → List ℕ → Type 0
NoNumber end text = (n : ℕ) (rest : List ℕ) → n < 2 ^ 64 → text ≡ decimal n ++ end ∷ rest → ⊥

-- nor with a hash and a space
abbrev pub IsHash : MerkleHash → Type 0
IsHash h = (length h.0 ≡ 32) × All (λ b. b < 256) h.0

abbrev pub NoHash : List ℕ → Type 0
NoHash text = (h : MerkleHash) (rest : List ℕ) → IsHash h → text ≡ encode_lower h.0 ++ 32 ∷ rest → ⊥

-- nor with a version, a hash and a length
abbrev pub NoHead : List ℕ → Type 0
NoHead text = (h : MerkleHash) (n : ℕ) (rest : List ℕ) → IsHash h → n < 2 ^ 64 → text ≡ head_text h n ++ rest → ⊥

-- a range of numbers of 64 bits
abbrev pub IsSmall : FileRange → Type 0
IsSmall g = (g.start < 2 ^ 64) × (g.end < 2 ^ 64)

-- nor with the line of a gap
abbrev pub NoGap : List ℕ → Type 0
NoGap text = (g : FileRange) (rest : List ℕ) → IsSmall g → text ≡ gap_line g ++ rest → ⊥

-- what is left of a text after some gaps is the text of the other gaps, if it is the text of any
pub record LeftOf (size : ℕ) (rest : List ℕ) (read : List FileRange) (last : Option ℕ) (gs : List FileRange)
    : Type 0 where
  pub others : List FileRange
  pub joined : gs ≡ read ++ others
  pub are : AreGaps (low_of last) size others
  pub text : rest ≡ flat_map gap_line others

-- the gaps of a text were read up to what is left of it
pub record ReadUpTo (size : ℕ) (text rest : List ℕ) (read : List FileRange) (last : Option ℕ) : Type 0 where
  pub text_is : text ≡ flat_map gap_line read ++ rest
  pub more : (others : List FileRange) → AreGaps (low_of last) size others → AreGaps 0 size (read ++ others)
  pub all : (gs : List FileRange) → AreGaps 0 size gs → text ≡ flat_map gap_line gs → LeftOf size rest read last gs

-- the text is that of no gaps of such a file
abbrev pub NoGaps : ℕ → List ℕ → Type 0
NoGaps size text = (gs : List FileRange) → AreGaps 0 size gs → text ≡ flat_map gap_line gs → ⊥
