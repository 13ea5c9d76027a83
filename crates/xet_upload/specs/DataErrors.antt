-- The errors that a session makes of those that it meets, and the numbers by which a program names them.
use Rattle.std.specs.Prelude.{ℕ}
use Rattle.xet_error.specs.declared.error.FileReconstructionError.{FileReconstructionError}
use Rattle.xet_error.specs.declared.error.FileReconstructionError.TheVariants as reconstruction_error
use Rattle.xet_outside.specs.declared.client.ClientError.{ClientError}
use Rattle.xet_outside.specs.declared.client.ClientError.TheVariants as client_error
use Rattle.xet_progress_state.specs.declared.error.ProgressError.{ProgressError}
use Rattle.xet_progress_state.specs.declared.error.ProgressError.TheVariants as progress_error
use Rattle.xet_shards.specs.declared.shard_store.ShardError.{ShardError}
use Rattle.xet_shards.specs.declared.shard_store.ShardError.TheVariants as shard_error
use Rattle.xet_upload.specs.declared.data_error.DataError.{DataError}
use Rattle.xet_upload.specs.declared.data_error.DataError.TheVariants as data_error

-- an uploader's want of memory stays want of memory, and its fault is a client's
abbrev pub of_client_error : ClientError → DataError
of_client_error client_error.OutOfMemory = data_error.OutOfMemory
of_client_error client_error.Failed = data_error.ClientError

-- a fault of a store of records is one of input and output
abbrev pub of_shard_error : ShardError → DataError
of_shard_error shard_error.OutOfMemory = data_error.OutOfMemory
of_shard_error shard_error.Failed = data_error.IOError

-- a refusal stays a refusal
abbrev pub of_progress_error : ProgressError → DataError
of_progress_error progress_error.OutOfMemory = data_error.OutOfMemory
of_progress_error (progress_error.InvalidOperation i) = data_error.InvalidOperation i

-- an error of a reconstruction stays as it is, but for want of memory
abbrev pub of_reconstruction_error : FileReconstructionError → DataError
of_reconstruction_error reconstruction_error.OutOfMemory = data_error.OutOfMemory
of_reconstruction_error e = data_error.FileReconstructionError e

-- the number by which a program names an error
abbrev pub data_error_number : DataError → ℕ
data_error_number data_error.OutOfMemory = 1
data_error_number data_error.ClientError = 2
data_error_number data_error.IOError = 3
data_error_number data_error.HashStringParsingFailure = 4
data_error_number (data_error.InvalidOperation i) = 5
data_error_number (data_error.SizeMismatch e a) = 6
data_error_number (data_error.FileReconstructionError e) = 7
data_error_number (data_error.SourceEnded e a) = 8
