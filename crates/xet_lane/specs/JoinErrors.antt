-- Which error a join came to.
use Rattle.std.specs.Prelude.{ℕ, ◌||◌, Bool, true, false, cond, List, ◌∷◌, map, Option, Some, Result}
use Rattle.std.specs.List.{list_any}
use Rattle.std.specs.Result.{result_err}
use Rattle.xet_base.specs.Lists.{first_some}
use Rattle.xet_error.specs.declared.error.FileReconstructionError.{FileReconstructionError}
use Rattle.xet_error.specs.declared.error.FileReconstructionError.TheVariants as error
use Rattle.xet_lane.specs.Fetches.{last_error}
use Rattle.xet_lane.specs.Ends.{End}

-- the error is want of memory
abbrev pub wants_memory : Option FileReconstructionError → Bool
wants_memory (Some error.OutOfMemory) = true
wants_memory o = false

-- the error of a lane's last step, where it failed
abbrev pub end_error : End → Option FileReconstructionError
end_error e = last_error e.steps

-- memory was wanting in a lane: in its last step, or besides
abbrev pub lacks_memory : End → Bool
lacks_memory e = e.short || wants_memory (end_error e)

-- memory was wanting in the writing or in a lane
abbrev pub memory_was_short : Result ℕ FileReconstructionError → List End → Bool
memory_was_short wrote es = wants_memory (result_err wrote) || list_any lacks_memory es

-- want of memory comes first, then the writer's error, then that of the lowest lane
abbrev pub first_error : Result ℕ FileReconstructionError → List End → Option FileReconstructionError
first_error wrote es = cond (memory_was_short wrote es) (Some error.OutOfMemory)
    (first_some (result_err wrote ∷ map end_error es))
