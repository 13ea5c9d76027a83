-- A file that is being filled.
use Rattle.std.specs.Prelude.{ℕ, ◌≡◌, ◌<◌, false, List, length, slice_get, IfSome}
use Rattle.xet_base.specs.Store.{Store, bytes_of}
use Rattle.xet_outside.specs.Places.{placed_of}
use Rattle.xet_ties.specs.Setup.{RunTold}
use Rattle.xet_gaps.specs.Gaps.{Gaps, IsGapRecord, is_missing}

-- the file has the record's length, and each byte of it that isn't missing stands in the content
pub record GapsHold (g : Gaps) (s : Store) (content : List ℕ) : Type 0 where
  pub is : IsGapRecord g
  pub length_of : length (bytes_of s g.file) ≡ g.length_is
  pub filled : (p : ℕ) → p < g.length_is → is_missing p g.gaps ≡ false
      → slice_get content p ≡ slice_get (bytes_of s g.file) p

-- so in a content that is told
abbrev pub HoldTold : Gaps → Store → RunTold → Type 0
HoldTold g s told = IfSome (placed_of told.sink) (λ p. GapsHold g s p.content)
