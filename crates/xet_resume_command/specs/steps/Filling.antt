-- What ranges make of a file, one after another.
use Rattle.std.specs.Prelude.{ℕ, ◌≡◌, ◌⊎◌, ◌+◌, ◌<◌, false, List, [], length, find, Option, Some, None, Result, Ok, Err}
use Rattle.std.specs.Prelude.{nat_lt, IsNone, IsSome, IsTrue, min, option_map}
use Rattle.std.specs.List.{fold, list_any}
use Rattle.xet_base.specs.declared.cas_types.FileRange.{FileRange}
use Rattle.xet_base.specs.declared.merklehash.MerkleHash.{MerkleHash}
use Rattle.xet_base.specs.Store.{Store, file_of, window}
use Rattle.xet_outside.specs.Places.{placed_of}
use Rattle.xet_outside.specs.Told.{ClientTold, SinkTold}
use Rattle.xet_reconstruct.specs.Lent.{no_limits}
use Rattle.xet_ties.specs.Setup.{RunTold}
use Rattle.xet_gaps.specs.Gaps.{Gaps, less, missing_bytes, new_gaps, parts_of}
use Rattle.xet_resume.specs.declared.resume_error.ResumeError.{ResumeError}
use Rattle.xet_resume.specs.declared.resume_error.ResumeError.TheVariants as resume_error
use Rattle.xet_resume_command.specs.declared.wanted.ResumeWanted.{ResumeWanted}
use Rattle.xet_resume_command.specs.Resume.{Filled, asks_some, filled_by, is_short, nothing_of, resumed, with_part}
use Rattle.xet_resume_command.specs.Words.{ranges_of}

-- what the arguments of a fetch tell that has no cache and that no signal stops
abbrev pub told_of : List ClientTold → SinkTold → RunTold
told_of cs sink = record {
  clients = cs;
  cache = record { entries = Some []; looked = None; offers = None; faults = 0 };
  signal = record { asks = None; yes = 0 };
  sink = sink;
  limits = no_limits;
}

-- a file has this content
abbrev pub ContentIs : SinkTold → List ℕ → Type 0
ContentIs t content = option_map (λ p. p.content) (placed_of t) ≡ Some content

-- ---- one range

-- all parts of a range were fetched
pub record RangeDone (s : Store) (r : FileRange) (old new : Gaps) (before after : SinkTold) (count : ℕ) : Type 0 where
  pub whole : find (is_short s old.file) (parts_of old.gaps r) ≡ None
  pub gaps : new ≡ record old { gaps = less old.gaps r }
  pub content : (c : List ℕ) → ContentIs before c
      → ContentIs after (fold (with_part s old.file) c (parts_of old.gaps r))
  pub stored : (parts_of old.gaps r ≡ []) ⊎ IsSome (file_of s old.file)
  pub counted : count + missing_bytes new.gaps ≡ missing_bytes old.gaps

-- the stored file ends in a part, or before it
pub record RangeShort (s : Store) (r : FileRange) (old : Gaps) (actual : ℕ) : Type 0 where
  pub part : FileRange
  pub first : find (is_short s old.file) (parts_of old.gaps r) ≡ Some part
  pub actual_is : actual ≡ length (window s old.file part)
  pub stored : IsSome (file_of s old.file)

-- one range of a file of a store; but for want of memory nothing fails
abbrev pub RangeAnswer : Store → FileRange → Gaps → Gaps → SinkTold → SinkTold → Result ℕ ResumeError → Type 0
RangeAnswer s r old new before after (Ok count) = RangeDone s r old new before after count
RangeAnswer s r old new before after (Err resume_error.OutOfMemory) = Unit {0}
RangeAnswer s r old new before after (Err (resume_error.Run e)) =
    (0 < length (parts_of old.gaps r)) × IsNone (file_of s old.file)
RangeAnswer s r old new before after (Err (resume_error.Short expected actual)) = RangeShort s r old actual

-- ---- some ranges

-- a range of these has bytes of the file that is wanted
abbrev pub AsksNone : ResumeWanted → List FileRange → Type 0
AsksNone w rs = list_any (λ r. nat_lt r.start (min r.end w.length)) rs ≡ false

-- these ranges were fetched into an empty file
pub record SomeDone (s : Store) (w : ResumeWanted) (rs : List FileRange) (gaps : Gaps) (after : SinkTold)
    (count : ℕ) : Type 0 where
  pub filled : Filled
  pub filled_is : filled_by s w.file (Ok (nothing_of w)) rs ≡ Ok filled
  pub gaps_are : gaps ≡ record { file = w.file; length_is = w.length; gaps = filled.gaps }
  pub content : ContentIs after filled.content
  pub counted : count + missing_bytes filled.gaps ≡ w.length
  pub stored : IsSome (file_of s w.file) ⊎ ((filled ≡ nothing_of w) × AsksNone w rs)

-- all of them, or why not
abbrev pub AllAnswer : Store → ResumeWanted → Gaps → SinkTold → Result ℕ ResumeError → Type 0
AllAnswer s w gaps after (Ok count) = SomeDone s w (ranges_of w) gaps after count
AllAnswer s w gaps after (Err resume_error.OutOfMemory) = Unit {0}
AllAnswer s w gaps after (Err (resume_error.Run e)) = IsTrue (asks_some w) × IsNone (file_of s w.file)
AllAnswer s w gaps after (Err (resume_error.Short expected actual)) =
    (resumed s w ≡ Err actual) × IsSome (file_of s w.file)
