-- A script on its way.
use Rattle.std.specs.Prelude.{ℕ, ◌≡◌, ◌<◌, Bool, false, List, [], ◌∷◌, ◌++◌, is_some, length}
use Rattle.std.specs.List.{list_all}
use Rattle.xet_progress_state.specs.declared.step.TrackerStep.{TrackerStep}
use Rattle.xet_track.specs.declared.script.Turn.{Turn}
use Rattle.xet_track.specs.declared.script.Turn.TheVariants.{Printed, Unread, Ended}
use Rattle.xet_track.specs.Lines.{before, lines_of}
use Rattle.xet_track.specs.Script.{step_of_line}
use Rattle.xet_track.specs.Texts.{line_text, lines_text}

-- the accepted calls, and the text that is left
pub record ScriptLeft : Type 0 where
  pub calls : List TrackerStep
  pub rest : List ℕ

-- what it still prints
abbrev pub text_left : ScriptLeft → List ℕ
text_left s = lines_text s.calls (lines_of s.rest)

-- each of its lines reads
abbrev pub reads_left : ScriptLeft → Bool
reads_left s = list_all (λ l. is_some (step_of_line l)) (lines_of s.rest)

-- the call of the first line was made: its line was printed with its end, and the others print the rest
pub record PrintsLine (old new : ScriptLeft) (out now : List ℕ) : Type 0 where
  pub line : now ≡ out ++ line_text old.calls (step_of_line (before 10 old.rest))
  pub whole : (front : List ℕ) × (now ≡ out ++ (front ++ 10 ∷ []))
  pub text : now ++ text_left new ≡ out ++ text_left old
  pub reads : reads_left new ≡ reads_left old
  pub shorter : length new.rest < length old.rest

-- one turn, and the text before and after it
abbrev pub TurnOf : ScriptLeft → ScriptLeft → List ℕ → List ℕ → Turn → Type 0
TurnOf old new out now Printed = PrintsLine old new out now
TurnOf old new out now Unread = (now ≡ out ++ text_left old) × (reads_left old ≡ false) × (new.rest ≡ [])
TurnOf old new out now Ended = (old.rest ≡ []) × (new ≡ old) × (now ≡ out)
