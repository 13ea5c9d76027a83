-- The calls that lines spell.
use Rattle.std.specs.Prelude.{ℕ, Bool, true, false, cond, List, [], ◌∷◌, Option, Some, None, option_and_then}
use Rattle.std.specs.Prelude.{option_map, codes}
use Rattle.std.specs.Str.{bytes_eq}
use Rattle.xet_progress_state.specs.declared.step.TrackerStep.{TrackerStep}
use Rattle.xet_progress_state.specs.declared.step.TrackerStep.TheVariants.{RegisterNewFile, IncrementFileSize}
use Rattle.xet_progress_state.specs.declared.step.TrackerStep.TheVariants.{RegisterNewXorb, RegisterDependencies}
use Rattle.xet_progress_state.specs.declared.step.TrackerStep.TheVariants.{RegisterXorbUploadCompletion}
use Rattle.xet_progress_state.specs.declared.step.TrackerStep.TheVariants.{RegisterXorbUploadProgress}
use Rattle.xet_progress_state.specs.declared.step.TrackerStep.TheVariants.{RegisterXorbUploadProgressBackground, Status}
use Rattle.xet_progress_state.specs.declared.step.TrackerStep.TheVariants.{IsComplete}
use Rattle.xet_track.specs.Lines.{words_of}
use Rattle.xet_track.specs.Numbers.{number_of_text, name_of_text}

-- `status`, `complete`
abbrev pub one_word : List ℕ → Option TrackerStep
one_word w = cond (bytes_eq w (codes "status")) (Some Status)
    (cond (bytes_eq w (codes "complete")) (Some IsComplete) None)

-- `file N`, `file ?`, `done NAME`
abbrev pub file_call : List ℕ → Option TrackerStep
file_call a = cond (bytes_eq a (codes "?")) (Some (RegisterNewFile None))
    (option_map (λ n. RegisterNewFile (Some n)) (number_of_text a))

-- the call that a line of two words spells
abbrev pub two_words : List ℕ → List ℕ → Option TrackerStep
two_words w a = cond (bytes_eq w (codes "file")) (file_call a)
    (cond (bytes_eq w (codes "done")) (option_map (λ h. RegisterXorbUploadCompletion h) (name_of_text a)) None)

-- `grow ID N`, `xorb NAME N`, `progress NAME N`, `background NAME N`
abbrev pub grow_call : List ℕ → List ℕ → Option TrackerStep
grow_call a b = option_and_then (λ f. option_map (λ n. IncrementFileSize f n) (number_of_text b)) (number_of_text a)

-- a xorb with its size
abbrev pub xorb_call : List ℕ → List ℕ → Option TrackerStep
xorb_call a b = option_and_then (λ h. option_map (λ n. RegisterNewXorb h n) (number_of_text b)) (name_of_text a)

-- progress of a xorb
abbrev pub progress_call : List ℕ → List ℕ → Option TrackerStep
progress_call a b = option_and_then (λ h. option_map (λ n. RegisterXorbUploadProgress h n) (number_of_text b))
    (name_of_text a)

-- progress of a xorb in the background
abbrev pub background_call : List ℕ → List ℕ → Option TrackerStep
background_call a b = option_and_then
    (λ h. option_map (λ n. RegisterXorbUploadProgressBackground h n) (number_of_text b)) (name_of_text a)

-- the call that a line of three words spells
abbrev pub three_words : List ℕ → List ℕ → List ℕ → Option TrackerStep
three_words w a b =
    cond (bytes_eq w (codes "grow")) (grow_call a b) (cond (bytes_eq w (codes "xorb")) (xorb_call a b)
    (cond (bytes_eq w (codes "progress")) (progress_call a b)
    (cond (bytes_eq w (codes "background")) (background_call a b) None)))

-- `dep ID NAME N`, `ext ID NAME N`
abbrev pub dependency_call : Bool → List ℕ → List ℕ → List ℕ → Option TrackerStep
dependency_call ext a b c =
    option_and_then (λ f. option_and_then
    (λ h. option_map (λ n. RegisterDependencies
    (record { file_id = f; xorb_hash = h; n_bytes = n; is_external = ext } ∷ []))
    (number_of_text c)) (name_of_text b)) (number_of_text a)

-- the call that a line of four words spells
abbrev pub four_words : List ℕ → List ℕ → List ℕ → List ℕ → Option TrackerStep
four_words w a b c = cond (bytes_eq w (codes "dep")) (dependency_call false a b c)
    (cond (bytes_eq w (codes "ext")) (dependency_call true a b c) None)

-- the call that words spell, one to four of them
abbrev pub step_of_words : List (List ℕ) → Option TrackerStep
step_of_words (w ∷ []) = one_word w
step_of_words (w ∷ a ∷ []) = two_words w a
step_of_words (w ∷ a ∷ b ∷ []) = three_words w a b
step_of_words (w ∷ a ∷ b ∷ c ∷ []) = four_words w a b c
step_of_words _ = None

-- the call that a line spells
abbrev pub step_of_line : List ℕ → Option TrackerStep
step_of_line line = step_of_words (words_of line)
