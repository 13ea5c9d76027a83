-- Laws of calls one after another, between which nobody else writes the file.
use Rattle.std.specs.Prelude.{ℕ, ◌≡◌, true, List, [], ◌∷◌, length, take, IsSome, Result}
use Rattle.xet_base.specs.declared.cas_types.FileRange.{FileRange}
use Rattle.xet_base.specs.declared.merklehash.MerkleHash.{MerkleHash}
use Rattle.xet_base.specs.Store.{Store, bytes_of}
use Rattle.xet_outside.specs.Places.{placed_of}
use Rattle.xet_terms.specs.declared.reconstruction_config.ReconstructionConfig.{ReconstructionConfig}
use Rattle.xet_ties.specs.Setup.{CacheTells, IsOver, RunTold}
use Rattle.xet_gaps.specs.Gaps.{Gaps, IsGapRecord, is_missing, new_gaps}
use Rattle.xet_resume.specs.declared.resume_error.ResumeError.{ResumeError}
use Rattle.xet_resume.specs.Fetches.{FetchCall}
use Rattle.xet_resume.specs.Holding.{GapsHold, HoldTold}

-- one call: its settings and range, and what stands after it
pub record Fetched : Type 0 where
  pub config : ReconstructionConfig
  pub range : FileRange
  pub gaps : Gaps
  pub told : RunTold
  pub answer : Result ℕ ResumeError

-- calls one after another
abbrev pub Fetches : Gaps → RunTold → List Fetched → Type 0
Fetches g told [] = Unit {0}
Fetches g told (f ∷ fs) = FetchCall f.config f.range g f.gaps told f.told f.answer × Fetches f.gaps f.told fs

-- what is missing after them
abbrev pub gaps_after : Gaps → List Fetched → Gaps
gaps_after g [] = g
gaps_after g (f ∷ fs) = gaps_after f.gaps fs

-- what is told after them
abbrev pub told_after : RunTold → List Fetched → RunTold
told_after told [] = told
told_after told (f ∷ fs) = told_after f.told fs

-- from a new record on, over connections and a cache that tell one valid store with a file of the record's length, what
-- isn't missing stands in the file after any calls, failed ones too
abbrev pub FetchesHold : Type 0
FetchesHold = (s : Store) (file : MerkleHash) (n : ℕ) (told : RunTold) (fs : List Fetched)
    → IsGapRecord (new_gaps file n) → IsOver s told.clients → CacheTells s told.cache → length (bytes_of s file) ≡ n
    → IsSome (placed_of told.sink) → Fetches (new_gaps file n) told fs
    → HoldTold (gaps_after (new_gaps file n) fs) s (told_after told fs)

-- and the content stays told
abbrev pub FetchesTell : Type 0
FetchesTell = (g : Gaps) (told : RunTold) (fs : List Fetched) → IsSome (placed_of told.sink) → Fetches g told fs
    → IsSome (placed_of (told_after told fs).sink)

-- what is missing after some calls was missing before
abbrev pub FetchesShrink : Type 0
FetchesShrink = (g : Gaps) (told : RunTold) (fs : List Fetched) → Fetches g told fs
    → (p : ℕ) → is_missing p (gaps_after g fs).gaps ≡ true → is_missing p g.gaps ≡ true

-- where nothing is missing the content begins with the file's bytes
abbrev pub DoneIsWhole : Type 0
DoneIsWhole = (g : Gaps) (s : Store) (content : List ℕ) → GapsHold g s content → g.gaps ≡ []
    → take g.length_is content ≡ bytes_of s g.file
