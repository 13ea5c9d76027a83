-- What a script prints.
use Rattle.std.specs.Prelude.{ℕ, ◌≡◌, Bool, true, false, cond, List, [], ◌∷◌, ◌++◌, Option, Some, None, is_some, codes}
use Rattle.std.specs.List.{list_all}
use Rattle.std.specs.Fmt.{decimal}
use Rattle.xet_base.specs.declared.invalid.Invalid.{Invalid}
use Rattle.xet_base.specs.declared.invalid.Invalid.TheVariants.{Finalized, ReversedRange, IdsUsedUp, DuplicateId}
use Rattle.xet_base.specs.declared.invalid.Invalid.TheVariants.{UnknownItem, UnknownFile, UnknownXorb, OtherSize}
use Rattle.xet_base.specs.declared.invalid.Invalid.TheVariants.{PastTotal, XorbCompleted, SumTooGreat}
use Rattle.xet_progress_state.specs.declared.step.TrackerStep.{TrackerStep}
use Rattle.xet_progress_state.specs.declared.step.TrackerReply.{TrackerReply}
use Rattle.xet_progress_state.specs.declared.step.TrackerReply.TheVariants.{Done, FileId, Flag, Sums, Unfinished}
use Rattle.xet_progress_state.specs.declared.step.TrackerReply.TheVariants.{Refused}
use Rattle.xet_progress_state.specs.Replies.{reply_of, after}
use Rattle.xet_track.specs.Lines.{lines_of}
use Rattle.xet_track.specs.Script.{step_of_line}

-- the number that a refusal prints
abbrev pub number_of_invalid : Invalid → ℕ
number_of_invalid Finalized = 1
number_of_invalid (ReversedRange s e) = 2
number_of_invalid IdsUsedUp = 3
number_of_invalid (DuplicateId i) = 4
number_of_invalid (UnknownItem i) = 5
number_of_invalid (UnknownFile i) = 6
number_of_invalid (UnknownXorb h) = 7
number_of_invalid (OtherSize r g) = 8
number_of_invalid (PastTotal t c i) = 9
number_of_invalid (XorbCompleted h) = 10
number_of_invalid (SumTooGreat h a) = 11

-- the line of a reply, with its end; no line of a script asks what is unfinished
abbrev pub text_of_reply : TrackerReply → List ℕ
text_of_reply Done = codes "ok\n"
text_of_reply (FileId n) = decimal n ++ codes "\n"
text_of_reply (Flag true) = codes "true\n"
text_of_reply (Flag false) = codes "false\n"
text_of_reply (Sums completed total) = decimal completed ++ codes " " ++ decimal total ++ codes "\n"
text_of_reply (Unfinished i) = codes "unfinished\n"
text_of_reply (Refused why) = codes "refused " ++ decimal (number_of_invalid why) ++ codes "\n"

-- the line for the call that a line spells, and the accepted calls after it
abbrev pub line_text : List TrackerStep → Option TrackerStep → List ℕ
line_text cs None = codes "error script\n"
line_text cs (Some c) = text_of_reply (reply_of cs c)

-- the accepted calls after a line
abbrev pub moved_by : List TrackerStep → Option TrackerStep → List TrackerStep
moved_by cs None = cs
moved_by cs (Some c) = after cs c

-- the lines for some lines, after these accepted calls: up to the first that doesn't read
abbrev pub lines_text : List TrackerStep → List (List ℕ) → List ℕ
lines_text cs [] = []
lines_text cs (l ∷ ls) = line_text cs (step_of_line l) ++ cond (is_some (step_of_line l))
    (lines_text (moved_by cs (step_of_line l)) ls) []

-- what a script prints
abbrev pub track_text : List ℕ → List ℕ
track_text script = lines_text [] (lines_of script)

-- a first part of a text was added
pub record PrintedPart (before now text : List ℕ) : Type 0 where
  pub printed : List ℕ
  pub rest : List ℕ
  pub now_is : now ≡ before ++ printed
  pub text_is : text ≡ printed ++ rest

-- each of its lines reads
abbrev pub track_reads : List ℕ → Bool
track_reads script = list_all (λ l. is_some (step_of_line l)) (lines_of script)

-- one line over the accepted calls and the text before and after it
pub record LineOf (cs ds : List TrackerStep) (line : List ℕ) (before now : List ℕ) (read : Bool) : Type 0 where
  pub read_is : read ≡ is_some (step_of_line line)
  pub text : now ≡ before ++ line_text cs (step_of_line line)
  pub moved : ds ≡ moved_by cs (step_of_line line)
