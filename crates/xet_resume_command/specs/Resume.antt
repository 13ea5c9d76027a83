-- What the command `resume` prints.
use Rattle.std.specs.Prelude.{ℕ, ◌≡◌, ◌-◌, ◌++◌, Bool, List, [], ◌∷◌, length, find, Option, Some, None, Result, Ok, Err}
use Rattle.std.specs.Prelude.{nat_lt, IsNone, IsSome, IsTrue, min}
use Rattle.std.specs.List.{fold, list_any}
use Rattle.hex.specs.Hex.{encode_lower}
use Rattle.xet_base.specs.declared.cas_types.FileRange.{FileRange}
use Rattle.xet_base.specs.declared.merklehash.MerkleHash.{MerkleHash}
use Rattle.xet_base.specs.Store.{Store, file_of, window}
use Rattle.xet_document.specs.Document.{HasStore, NoStore}
use Rattle.xet_outside.specs.Places.{put_at}
use Rattle.xet_gaps.specs.Gaps.{Gaps, less, missing_bytes, new_gaps, parts_of}
use Rattle.xet_gaps.specs.Texts.{record_text}
use Rattle.xet_resume_command.specs.declared.wanted.ResumeWanted.{ResumeWanted}
use Rattle.xet_resume_command.specs.Words.{ranges_of}
use Rattle.xet_room.specs.declared.status.Status.{Status}
use Rattle.xet_room.specs.declared.status.Status.TheVariants.{BadStore, Done, NotFound, Short}
use Rattle.xet_room.specs.Texts.{line, ok_line, short_line}

-- ---- what the ranges make of an empty file

-- a part stands in the file
abbrev pub with_part : Store → MerkleHash → List ℕ → FileRange → List ℕ
with_part s f content p = put_at content p.start (window s f p)

-- the stored file ends inside the part, or before it
abbrev pub is_short : Store → MerkleHash → FileRange → Bool
is_short s f p = nat_lt (length (window s f p)) (p.end - p.start)

-- what is missing of a file, and its content
pub record Filled : Type 0 where
  pub gaps : List FileRange
  pub content : List ℕ

-- one range, of which this part is the first short one: each other part before it stands in the file, or how many bytes
-- that one has
abbrev pub with_range : Store → MerkleHash → Filled → FileRange → Option FileRange → Result Filled ℕ
with_range s f now r (Some p) = Err (length (window s f p))
with_range s f now r None = Ok (record {
  gaps = less now.gaps r;
  content = fold (with_part s f) now.content (parts_of now.gaps r);
})

-- some ranges, one after another, up to one with a short part
abbrev pub filled_by : Store → MerkleHash → Result Filled ℕ → List FileRange → Result Filled ℕ
filled_by s f (Err n) rs = Err n
filled_by s f (Ok now) [] = Ok now
filled_by s f (Ok now) (r ∷ rs) =
    filled_by s f (with_range s f now r (find (is_short s f) (parts_of now.gaps r))) rs

-- an empty file of which all is missing
abbrev pub nothing_of : ResumeWanted → Filled
nothing_of w = record { gaps = (new_gaps w.file w.length).gaps; content = [] }

-- all ranges that are wanted
abbrev pub resumed : Store → ResumeWanted → Result Filled ℕ
resumed s w = filled_by s w.file (Ok (nothing_of w)) (ranges_of w)

-- a range has bytes of the file that is wanted
abbrev pub asks_some : ResumeWanted → Bool
asks_some w = list_any (λ r. nat_lt r.start (min r.end w.length)) (ranges_of w)

-- ---- the text

-- the digits of the content, a line end, the text of the record, and how many bytes were fetched
abbrev pub resume_text : ResumeWanted → Filled → List ℕ
resume_text w now =
    encode_lower now.content ++ 10
    ∷ (record_text (record { file = w.file; length_is = w.length; gaps = now.gaps })
    ++ ok_line (w.length - missing_bytes now.gaps))

-- ---- by the status

-- 0: the store has the file, or no range has a byte of it; no part of it is short
pub record ResumeDone (w : ResumeWanted) (s : Store) (whole : List ℕ) : Type 0 where
  pub found : IsTrue (asks_some w) → IsSome (file_of s w.file)
  pub filled : Filled
  pub filled_is : resumed s w ≡ Ok filled
  pub whole_is : whole ≡ resume_text w filled

-- 9: the store has the file, and the first short part has so many bytes
pub record ResumeShort (w : ResumeWanted) (s : Store) (n : ℕ) (whole : List ℕ) : Type 0 where
  pub found : IsSome (file_of s w.file)
  pub short : resumed s w ≡ Err n
  pub whole_is : whole ≡ short_line n

-- 3: a range has bytes of the file, and the store hasn't it
pub record ResumeMissing (w : ResumeWanted) (s : Store) (whole : List ℕ) : Type 0 where
  pub some : IsTrue (asks_some w)
  pub missing : IsNone (file_of s w.file)
  pub whole_is : whole ≡ line NotFound

-- of a store
abbrev pub StorePrints : ResumeWanted → Store → Status → List ℕ → Type 0
StorePrints w s Done whole = ResumeDone w s whole
StorePrints w s NotFound whole = ResumeMissing w s whole
StorePrints w s (Short n) whole = ResumeShort w s n whole
StorePrints w s _ whole = ⊥

-- 0, 3 and 9 by the store that the text lists; 2 where it lists none
abbrev pub ResumePrints : ResumeWanted → List ℕ → Status → List ℕ → Type 0
ResumePrints w text BadStore whole = NoStore text × (whole ≡ line BadStore)
ResumePrints w text own whole = (s : Store) × HasStore text s × StorePrints w s own whole
