-- What a call under the lock does to the history and to the count of its pass.
use Rattle.std.specs.Prelude.{ℕ, ◌≡◌, ◌⊎◌, ◌+◌, List, [], ◌∷◌, ◌++◌, Option, Some, Err, Result}
use Rattle.std.specs.Result.{result_err}
use Rattle.xet_error.specs.declared.error.FileReconstructionError.{FileReconstructionError}
use Rattle.xet_error.specs.declared.error.FileReconstructionError.TheVariants as error
use Rattle.xet_events.specs.declared.run_book.RunError.{RunError}
use Rattle.xet_events.specs.declared.run_book.RunError.TheVariants as run_error
use Rattle.xet_events.specs.declared.run_call.RunCall.{RunCall}
use Rattle.xet_events.specs.declared.run_call.RunCall.TheVariants as call

-- the history under the lock, how many calls a pass made, and its last one
pub record Log : Type 0 where
  pub calls : List RunCall
  pub count : ℕ
  pub last : Option RunCall

-- all three, as one value
abbrev pub log : List RunCall → ℕ → Option RunCall → Log
log calls count last = record { calls = calls; count = count; last = last }

-- the call was kept and counted, as the pass's last one
abbrev pub Logs : Log → Log → RunCall → Type 0
Logs before after c =
    (after.calls ≡ before.calls ++ c ∷ []) × ((after.count ≡ before.count + 1) × (after.last ≡ Some c))

-- no call was kept or counted
abbrev pub LogsNone : Log → Log → Type 0
LogsNone before after = (after.calls ≡ before.calls) × ((after.count ≡ before.count) × (after.last ≡ before.last))

-- the check of the error was kept with its answer, or want of memory was answered and nothing was kept
abbrev pub LogsError : Log → Log → Result (Unit {0}) FileReconstructionError → Type 0
LogsError before after answer =
    Logs before after (call.CheckError (result_err answer)) ⊎ (LogsNone before after × (answer ≡ Err error.OutOfMemory))

-- the check of the run was kept with its answer, or want of memory was answered and nothing was kept
abbrev pub LogsState : Log → Log → Result (Unit {0}) RunError → Type 0
LogsState before after answer =
    Logs before after (call.CheckRunState (result_err answer))
    ⊎ (LogsNone before after × (answer ≡ Err run_error.OutOfMemory))
