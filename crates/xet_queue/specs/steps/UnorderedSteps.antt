-- The steps of the writer by completion.
use Rattle.std.specs.Prelude.{ℕ, ◌≡◌, List, map, Result, OnOk, IfErr}
use Rattle.xet_error.specs.declared.error.FileReconstructionError.{FileReconstructionError}
use Rattle.xet_error.specs.declared.error.FileReconstructionError.TheVariants as error
use Rattle.xet_queue.specs.Calls.{wanted_without}
use Rattle.xet_queue.specs.Unordered.{Unordered, complete, range_of, start_of, told_of}
use Rattle.xet_queue.specs.Waits.{first_with}

-- the first term with this start is completed, if there is one
pub record CompletedFirst (before after : Unordered) (start : ℕ) (bytes : List ℕ)
    (answer : Result (Unit {0}) FileReconstructionError) : Type 0 where
  pub done : OnOk answer (after ≡ complete before start bytes (first_with start_of start before.wanted))
  pub told : OnOk answer (told_of after ≡ record (told_of before)
      { wanted = wanted_without start (map range_of before.wanted) })
  pub memory : IfErr answer (λ e. (e ≡ error.OutOfMemory) × (after ≡ before))
