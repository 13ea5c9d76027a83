-- What recording the error by which a run ends does.
use Rattle.std.specs.Prelude.{◌≡◌, ◌⊎◌, List, [], ◌∷◌, ◌++◌}
use Rattle.xet_error.specs.declared.error.FileReconstructionError.{FileReconstructionError}
use Rattle.xet_error.specs.declared.error.FileReconstructionError.TheVariants as error
use Rattle.xet_events.specs.declared.event.Event.{Event}
use Rattle.xet_ties.specs.PartCalls.{stop_event}

-- the error is recorded and is the answer; or memory was wanting, and that is the answer
abbrev pub IsStopped : List Event → List Event → FileReconstructionError → FileReconstructionError → Type 0
IsStopped es fs e answer =
    ((answer ≡ e) × (fs ≡ es ++ stop_event e ∷ [])) ⊎ ((answer ≡ error.OutOfMemory) × (fs ≡ es))
