-- How a call refuses what fails a test.
use Rattle.std.specs.Prelude.{◌≡◌, ◌⊎◌, MatchOption, Option}
use Rattle.xet_error.specs.declared.error.Corruption.{Corruption}
use Rattle.xet_error.specs.declared.error.FileReconstructionError.{FileReconstructionError}
use Rattle.xet_error.specs.declared.error.FileReconstructionError.TheVariants as error

-- memory was refused, or a test failed and the error has it
abbrev pub IsRefusal : Option Corruption → FileReconstructionError → Type 0
IsRefusal failed e = (e ≡ error.OutOfMemory) ⊎ MatchOption failed ⊥ (λ k. e ≡ error.CorruptedReconstruction k)
