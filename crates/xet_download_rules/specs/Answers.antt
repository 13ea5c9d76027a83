-- What is answered for a run of a download.
use Rattle.std.specs.Prelude.{ℕ, ◌==◌, cond, Option, Some, None, Result, Ok, Err}
use Rattle.xet_error.specs.declared.error.FileReconstructionError.{FileReconstructionError}
use Rattle.xet_upload.specs.DataErrors.{of_reconstruction_error}
use Rattle.xet_upload.specs.declared.data_error.DataError.{DataError}
use Rattle.xet_upload.specs.declared.data_error.DataError.TheVariants as data_error

-- the count of the bytes that were written, or that another number was expected
abbrev pub counted : Option ℕ → ℕ → Result ℕ DataError
counted None n = Ok n
counted (Some expected) n = cond (expected == n) (Ok n) (Err (data_error.SizeMismatch expected n))

-- the run's error, or its count where it is the expected one
abbrev pub answer_of : Option ℕ → Result ℕ FileReconstructionError → Result ℕ DataError
answer_of expected (Ok n) = counted expected n
answer_of expected (Err e) = Err (of_reconstruction_error e)
