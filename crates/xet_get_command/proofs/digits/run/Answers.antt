use Rattle.std.proofs.Common.{Err, Ok, refl, rules}
use Rattle.xet_error.specs.declared.error.FileReconstructionError.TheVariants as error
use Rattle.xet_get_command.proofs.PrintedDigits.{ran}
use Rattle.xet_get_command.proofs.digits.run.Goals as goal

pub returns-in-Ok : goal.returns-in-Ok
returns-in-Ok g c = ran _ _ _ _ _ _ (Ok c.in-Ok.count) _ refl (rw c.in-Ok.is at c.run_on_store.ensures)

pub returns-in-Err-FileNotFound : goal.returns-in-Err-FileNotFound
returns-in-Err-FileNotFound g c = ran _ _ _ _ _ _ (Err error.FileNotFound) _ refl (rw (c.in-Err-FileNotFound.is, c.in-Err-FileNotFound.field-0-is) at c.run_on_store.ensures)

pub returns-in-Err-OutOfMemory : goal.returns-in-Err-OutOfMemory
returns-in-Err-OutOfMemory g c = ran _ _ _ _ _ _ (Err error.OutOfMemory) _ refl (rw (c.in-Err-OutOfMemory.is, c.in-Err-OutOfMemory.field-0-is) at c.run_on_store.ensures)

pub returns-in-Err-IoError : goal.returns-in-Err-IoError
returns-in-Err-IoError g c = ran _ _ _ _ _ _ (Err error.IoError) _ refl (rw (c.in-Err-IoError.is, c.in-Err-IoError.field-0-is) at c.run_on_store.ensures)

pub returns-in-Err-CorruptedReconstruction : goal.returns-in-Err-CorruptedReconstruction
returns-in-Err-CorruptedReconstruction g c = ran _ _ _ _ _ _ (Err (error.CorruptedReconstruction c.in-Err-CorruptedReconstruction.test)) _ (search rules) (rw (c.in-Err-CorruptedReconstruction.is, c.in-Err-CorruptedReconstruction.field-0-is) at c.run_on_store.ensures)

pub returns-in-Err-ConfigurationError : goal.returns-in-Err-ConfigurationError
returns-in-Err-ConfigurationError g c = ran _ _ _ _ _ _ (Err (error.ConfigurationError c.in-Err-ConfigurationError.setting)) _ refl (rw (c.in-Err-ConfigurationError.is, c.in-Err-ConfigurationError.field-0-is) at c.run_on_store.ensures)
