-- One turn of the loop over lines.
use Rattle.std.proofs.Common.{◌≡◌, ℕ, Bool, true, false, cond, ◌&&◌, List, [], ◌∷◌, ◌++◌, refl, sym, ◌∙◌, ap, ◌<◌, ◌≤◌, length, arith}
use Rattle.std.specs.Prelude.{Some, None, nat_eq, unwrap_or, is_some}
use Rattle.std.specs.List.{list_all}
use Rattle.std.proofs.lemmas.List.{append-nil, append_assoc, append_cancel_left}
use Rattle.xet_progress_state.specs.declared.step.TrackerStep.{TrackerStep}
use Rattle.xet_track.specs.Lines.{lines_of, in_front, before, behind}
use Rattle.xet_track.specs.Script.{step_of_line}
use Rattle.std.specs.Prelude.{Option, codes}
use Rattle.std.specs.Fmt.{decimal}
use Rattle.xet_progress_state.specs.declared.step.TrackerReply.{TrackerReply}
use Rattle.xet_progress_state.specs.declared.step.TrackerReply.TheVariants.{Done, FileId, Flag, Sums, Unfinished, Refused}
use Rattle.xet_progress_state.specs.Replies.{reply_of}
use Rattle.xet_track.specs.Texts.{LineOf, PrintedPart, line_text, lines_text, moved_by, number_of_invalid, text_of_reply}

-- a text ends with a line end
abbrev pub IsWhole : List ℕ → Type 0
IsWhole text = (front : List ℕ) × (text ≡ front ++ 10 ∷ [])

reply_ends : (r : TrackerReply) → IsWhole (text_of_reply r)
reply_ends Done = (codes "ok", refl)
reply_ends (FileId n) = (decimal n, refl)
reply_ends (Flag true) = (codes "true", refl)
reply_ends (Flag false) = (codes "false", refl)
reply_ends (Sums c t) = (decimal c ++ codes " " ++ decimal t, refl)
reply_ends (Unfinished i) = (codes "unfinished", refl)
reply_ends (Refused why) = (codes "refused " ++ decimal (number_of_invalid why), refl)

-- so does each line that is printed
line_ends : (cs : List TrackerStep) (o : Option TrackerStep) → IsWhole (line_text cs o)
line_ends cs None = (codes "error script", refl)
line_ends cs (Some c) = reply_ends (reply_of cs c)

-- the lines are the one before the first line end, and those after it
lines_cut : (x : ℕ) (xs : List ℕ) → lines_of (x ∷ xs) ≡ before 10 (x ∷ xs) ∷ lines_of (unwrap_or (behind 10 (x ∷ xs)) [])
lines_cut x [] = go (nat_eq x 10)
  where
    go : (b : Bool) → cond b ([] ∷ []) ((x ∷ []) ∷ []) ≡ cond b [] (x ∷ []) ∷ lines_of (unwrap_or (cond b (Some []) None) [])
    go true = refl
    go false = refl
lines_cut x (y ∷ xs) = go (nat_eq x 10) (lines_cut y xs)
  where
    go : (b : Bool) → lines_of (y ∷ xs) ≡ before 10 (y ∷ xs) ∷ lines_of (unwrap_or (behind 10 (y ∷ xs)) [])
        → cond b ([] ∷ lines_of (y ∷ xs)) (in_front x (lines_of (y ∷ xs))) ≡ cond b [] (x ∷ before 10 (y ∷ xs)) ∷ lines_of (unwrap_or (cond b (Some (y ∷ xs)) (behind 10 (y ∷ xs))) [])
    go true e = refl
    go false e = ap (λ l. in_front x l) e

lines_first : (xs : List ℕ) → 0 < length xs → lines_of xs ≡ before 10 xs ∷ lines_of (unwrap_or (behind 10 xs) [])
lines_first [] h = absurd (omega (arith, h))
lines_first (x ∷ xs) h = lines_cut x xs

abbrev pub all_read : List (List ℕ) → Bool
all_read ls = list_all (λ x. is_some (step_of_line x)) ls

module _ (cs ds : List TrackerStep) (rest line out now : List ℕ) (read : Bool) (some : 0 < length rest) (is : line ≡ before 10 rest) (turn : LineOf cs ds line out now read) where
  first : lines_of rest ≡ line ∷ lines_of (unwrap_or (behind 10 rest) [])
  first = lines_first rest some ∙ ap (λ l. l ∷ lines_of (unwrap_or (behind 10 rest) [])) (sym is)

  pub turn_text : read ≡ true → now ++ lines_text ds (lines_of (unwrap_or (behind 10 rest) [])) ≡ out ++ lines_text cs (lines_of rest)
  turn_text e =
      (let a = turn.text in let b = turn.moved in λ i. a i ++ lines_text (b i) (lines_of (unwrap_or (behind 10 rest) [])))
      ∙ append_assoc out (line_text cs (step_of_line line)) (lines_text (moved_by cs (step_of_line line)) (lines_of (unwrap_or (behind 10 rest) [])))
      ∙ ap (λ b. out ++ (line_text cs (step_of_line line) ++ cond b (lines_text (moved_by cs (step_of_line line)) (lines_of (unwrap_or (behind 10 rest) []))) [])) (sym (sym turn.read_is ∙ e))
      ∙ ap (λ l. out ++ lines_text cs l) (sym first)

  pub turn_stops : read ≡ false → now ≡ out ++ lines_text cs (lines_of rest)
  turn_stops e =
      turn.text
      ∙ ap (λ l. out ++ l) (sym (append-nil (line_text cs (step_of_line line))))
      ∙ ap (λ b. out ++ (line_text cs (step_of_line line) ++ cond b (lines_text (moved_by cs (step_of_line line)) (lines_of (unwrap_or (behind 10 rest) []))) [])) (sym (sym turn.read_is ∙ e))
      ∙ ap (λ l. out ++ lines_text cs l) (sym first)

  pub turn_reads : all_read (lines_of rest) ≡ (read && all_read (lines_of (unwrap_or (behind 10 rest) [])))
  turn_reads = ap (λ l. all_read l) first ∙ ap (λ b. b && all_read (lines_of (unwrap_or (behind 10 rest) []))) (sym turn.read_is)

  pub turn_line : now ≡ out ++ line_text cs (step_of_line (before 10 rest))
  turn_line = turn.text ∙ ap (λ (l : List ℕ). out ++ line_text cs (step_of_line l)) is

  pub turn_whole : (front : List ℕ) × (now ≡ out ++ (front ++ 10 ∷ []))
  turn_whole = let w = line_ends cs (step_of_line line) in (w.0, turn.text ∙ ap (λ (l : List ℕ). out ++ l) w.1)

-- a text was added to
abbrev pub Begins : List ℕ → List ℕ → Type 0
Begins front now = (more : List ℕ) × (now ≡ front ++ more)

-- what was added is a part of the text
pub part_of : (front out now text left : List ℕ) → Begins front out → out ++ left ≡ front ++ text → now ≡ out → PrintedPart front now text
part_of front out now text left b e same = record {
  printed = b.0;
  rest = left;
  now_is = same ∙ b.1;
  text_is = append_cancel_left front text (b.0 ++ left) (sym e ∙ ap (λ l. l ++ left) b.1 ∙ append_assoc front b.0 left);
}

-- what is left after a line is shorter
left_within : (x : ℕ) (xs : List ℕ) → length (unwrap_or (behind 10 (x ∷ xs)) []) ≤ length xs
left_within x [] = go (nat_eq x 10)
  where
    go : (b : Bool) → length {A = ℕ} (unwrap_or (cond b (Some []) None) []) ≤ 0
    go true = omega arith
    go false = omega arith
left_within x (y ∷ xs) = go (nat_eq x 10) (left_within y xs)
  where
    go : (b : Bool) → length (unwrap_or (behind 10 (y ∷ xs)) []) ≤ length xs → length (unwrap_or (cond b (Some (y ∷ xs)) (behind 10 (y ∷ xs))) []) ≤ length (y ∷ xs)
    go true h = omega arith
    go false h = omega (arith, h)

pub left_shorter : (xs : List ℕ) → 0 < length xs → length (unwrap_or (behind 10 xs) []) < length xs
left_shorter [] h = absurd (omega (arith, h))
left_shorter (x ∷ xs) h = let w = left_within x xs in omega (arith, w)
