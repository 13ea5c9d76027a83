-- Laws of gaps and of their texts.
use Rattle.std.specs.Prelude.{ℕ, ◌≡◌, ◌+◌, ◌&&◌, not, List}
use Rattle.xet_base.specs.declared.cas_types.FileRange.{FileRange}
use Rattle.xet_gaps.specs.Gaps.{AreGaps, Gaps, IsGapRecord, is_in, is_missing, less, missing_bytes, parts_of}
use Rattle.xet_gaps.specs.Texts.{record_text}

-- ---- gaps

-- the gaps less a range lack exactly the bytes that the range has
abbrev pub LessIsExact : Type 0
LessIsExact = (gs : List FileRange) (r : FileRange) (p : ℕ)
    → is_missing p (less gs r) ≡ (is_missing p gs && not (is_in p r))

-- they are gaps
abbrev pub LessAreGaps : Type 0
LessAreGaps = (gs : List FileRange) (r : FileRange) (end : ℕ) → AreGaps 0 end gs → AreGaps 0 end (less gs r)

-- the parts have exactly the bytes that both have
abbrev pub PartsAreExact : Type 0
PartsAreExact = (gs : List FileRange) (r : FileRange) (p : ℕ)
    → is_missing p (parts_of gs r) ≡ (is_missing p gs && is_in p r)

-- and what is left has as many bytes fewer as the parts have
abbrev pub PartsAreCounted : Type 0
PartsAreCounted = (gs : List FileRange) (r : FileRange)
    → missing_bytes (less gs r) + missing_bytes (parts_of gs r) ≡ missing_bytes gs

-- gaps with the same bytes are the same
abbrev pub SameBytesSameGaps : Type 0
SameBytesSameGaps = (gs hs : List FileRange) (end : ℕ) → AreGaps 0 end gs → AreGaps 0 end hs
    → ((p : ℕ) → is_missing p gs ≡ is_missing p hs) → gs ≡ hs

-- ---- texts

-- two records with one text are one
abbrev pub TextsDiffer : Type 0
TextsDiffer = (g h : Gaps) → IsGapRecord g → IsGapRecord h → record_text g ≡ record_text h → g ≡ h
