-- The words after `get`.
use Rattle.std.specs.Prelude.{ℕ, ◌-◌, ◌^◌, cond, List, ◌∷◌, Option, Some, None, option_and_then, option_map, codes}
use Rattle.std.specs.Str.{bytes_eq}
use Rattle.xet_base.specs.HashText.{hash_of_text}
use Rattle.xet_get_command.specs.declared.options.Options.{Options}
use Rattle.xet_get_command.specs.declared.wanted.Wanted.{Wanted}
use Rattle.xet_get_command.specs.GetOptions.{options_of}
use Rattle.xet_room.specs.Numbers.{number_of_text}

-- the end of a range: a number, or `end`, which is u64::MAX
abbrev pub end_of_text : List ℕ → Option ℕ
end_of_text text = cond (bytes_eq text (codes "end")) (Some (2 ^ 64 - 1)) (number_of_text text)

-- what is wanted of a file by its hash, from the start to before the end, where each has its form
abbrev pub range_of : List ℕ → List ℕ → List ℕ → Options → Option Wanted
range_of file start end options =
    option_and_then (λ h. option_and_then (λ a. option_map (λ b.
    record { file = h; range = record { start = a; end = b }; options = options })
    (end_of_text end)) (number_of_text start)) (hash_of_text file)

-- a file's hash, the start and the end of a range of its bytes, and options
abbrev pub wanted_of : List (List ℕ) → Option Wanted
wanted_of (file ∷ start ∷ end ∷ options) = option_and_then (range_of file start end) (options_of options)
wanted_of _ = None
