-- What the calls of a run's book answer and leave.
use Rattle.std.specs.Prelude.{Bool, true, false, Option, Some, None, Result, Ok, Err}
use Rattle.xet_error.specs.declared.error.FileReconstructionError.{FileReconstructionError}
use Rattle.xet_events.specs.declared.run_book.RunError.{RunError}
use Rattle.xet_events.specs.declared.run_book.RunError.TheVariants.{Error, Cancelled}
use Rattle.xet_events.specs.declared.run_book.RunBook.{RunBook}

-- the first of two errors
abbrev pub first_of : Option FileReconstructionError → FileReconstructionError → Option FileReconstructionError
first_of (Some e) x = Some e
first_of None x = Some x

-- the book after an error was set
abbrev pub with_error : RunBook → FileReconstructionError → RunBook
with_error b e = record b { error = first_of b.error e; cancelled = true }

-- an error as an answer
abbrev pub answer_of : {E : Type 0} → Option E → Result (Unit {0}) E
answer_of None = Ok tt
answer_of (Some e) = Err e

-- the answer to a check of the error
abbrev pub checked : RunBook → Result (Unit {0}) FileReconstructionError
checked b = answer_of b.error

-- why the run is to stop: its error, else that it was cancelled
abbrev pub stop_of : Option FileReconstructionError → Bool → Option RunError
stop_of (Some e) c = Some (Error e)
stop_of None true = Some Cancelled
stop_of None false = None

-- the answer to a check of the run
abbrev pub run_checked : RunBook → Result (Unit {0}) RunError
run_checked b = answer_of (stop_of b.error b.cancelled)
