-- The words after `resume`.
use Rattle.std.specs.Prelude.{ℕ, ◌+◌, cond, nat_lt, List, [], ◌∷◌, ◌++◌, take, drop, replicate, Option, Some, None}
use Rattle.std.specs.Prelude.{option_and_then, option_map}
use Rattle.xet_base.specs.declared.cas_types.FileRange.{FileRange}
use Rattle.xet_base.specs.HashText.{hash_of_text}
use Rattle.xet_get_command.specs.GetWords.{end_of_text}
use Rattle.xet_resume_command.specs.declared.wanted.ResumeWanted.{ResumeWanted}
use Rattle.xet_room.specs.Numbers.{number_of_text}

-- the ranges in the order of the words
abbrev pub ranges_of : ResumeWanted → List FileRange
ranges_of w = take w.count w.ranges

-- a start and an end, each of its form
abbrev pub range_of_words : List ℕ → List ℕ → Option FileRange
range_of_words start end =
    option_and_then (λ a. option_map (λ b. record { start = a; end = b }) (end_of_text end)) (number_of_text start)

-- one range more, where there are fewer than 16
abbrev pub with_range : ResumeWanted → FileRange → Option ResumeWanted
with_range w r = cond (nat_lt w.count 16) (Some (record w {
  ranges = take w.count w.ranges ++ r ∷ drop (w.count + 1) w.ranges;
  count = w.count + 1;
})) None

-- the ranges of some words, two each
abbrev pub with_words : ResumeWanted → List (List ℕ) → Option ResumeWanted
with_words w [] = Some w
with_words w (start ∷ []) = None
with_words w (start ∷ end ∷ words) =
    option_and_then (λ v. with_words v words) (option_and_then (with_range w) (range_of_words start end))

-- a file's hash, its length, and the words of its ranges
abbrev pub wanted_of_words : List ℕ → List ℕ → List (List ℕ) → Option ResumeWanted
wanted_of_words file length words = option_and_then (λ h. option_and_then (λ n. with_words (record {
  file = h;
  length = n;
  ranges = replicate 16 (record { start = 0; end = 0 });
  count = 0;
}) words) (number_of_text length)) (hash_of_text file)

-- so, with one range at least
abbrev pub resume_of : List (List ℕ) → Option ResumeWanted
resume_of (file ∷ length ∷ start ∷ words) = wanted_of_words file length (start ∷ words)
resume_of _ = None
