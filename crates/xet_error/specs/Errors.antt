-- The errors that the outside's errors become, and the numbers of settings and failed tests.
use Rattle.std.specs.Prelude.{ℕ}
use Rattle.xet_outside.specs.declared.client.ClientError.{ClientError}
use Rattle.xet_outside.specs.declared.client.ClientError.TheVariants as client_error
use Rattle.xet_outside.specs.declared.sink.SinkError.{SinkError}
use Rattle.xet_outside.specs.declared.sink.SinkError.TheVariants as sink_error
use Rattle.xet_error.specs.declared.error.FileReconstructionError.{FileReconstructionError}
use Rattle.xet_error.specs.declared.error.FileReconstructionError.TheVariants as error
use Rattle.xet_error.specs.declared.error.Corruption.{Corruption}
use Rattle.xet_error.specs.declared.error.Corruption.TheVariants as corruption
use Rattle.xet_error.specs.declared.error.Setting.{Setting}
use Rattle.xet_error.specs.declared.error.Setting.TheVariants as setting

-- a connection's want of memory stays want of memory, and its fault is a connection's
abbrev pub of_client_error : ClientError → FileReconstructionError
of_client_error client_error.OutOfMemory = error.OutOfMemory
of_client_error client_error.Failed = error.ClientError

-- a sink's want of memory stays want of memory, and its fault is a writer's
abbrev pub of_sink_error : SinkError → FileReconstructionError
of_sink_error sink_error.OutOfMemory = error.OutOfMemory
of_sink_error sink_error.Failed = error.IoError

-- the number by which a program names a setting
abbrev pub setting_number : Setting → ℕ
setting_number setting.NoConnection = 1
setting_number setting.NoTries = 2
setting_number setting.LeastZero = 3
setting_number setting.GreatestBelowLeast = 4

-- the number by which a program names a failed test
abbrev pub corruption_number : Corruption → ℕ
corruption_number (corruption.Ranges x e) = 1
corruption_number (corruption.NoXorb t) = 2
corruption_number (corruption.NoRange t) = 3
corruption_number (corruption.Offset o n) = 4
corruption_number (corruption.Position t) = 5
corruption_number (corruption.Trim e n) = 6
corruption_number corruption.RefreshPastEnd = 7
corruption_number (corruption.RefreshRange r) = 8
corruption_number (corruption.RefreshBlocks i) = 9
corruption_number (corruption.OffsetCount e a) = 10
corruption_number (corruption.OffsetOrder p) = 11
corruption_number (corruption.BlockLength e a) = 12
corruption_number (corruption.TermPastBlock e n) = 13
corruption_number (corruption.PastKnownEnd k s) = 14
