-- What a run says: its answer, and how its history is tied to what its arguments tell.
use Rattle.std.specs.Prelude.{ℕ, ◌≡◌, ◌<◌, List, [], length, count_by, Some, None, OnOk, option_map, Result, Ok, Err}
use Rattle.std.specs.Prelude.{IfOk, IfErr, IfSome}
use Rattle.std.specs.List.{AllZip, concat}
use Rattle.xet_base.specs.Store.{Store}
use Rattle.xet_outside.specs.Told.{SinkTold, Took}
use Rattle.xet_error.specs.declared.error.FileReconstructionError.{FileReconstructionError}
use Rattle.xet_error.specs.declared.error.FileReconstructionError.TheVariants as error
use Rattle.xet_error.specs.declared.error.Setting.{Setting}
use Rattle.xet_events.specs.declared.event.Event.{Event}
use Rattle.xet_events.specs.Events.{expires, is_admit, planned, unwritten, written}
use Rattle.xet_history.specs.TrueHistory.{ReachesEnd}
use Rattle.xet_ties.specs.Causes.{Cause, refused_setting}
use Rattle.xet_ties.specs.Saids.{IsTaskPiece, some_of}
use Rattle.xet_ties.specs.Setup.{CacheTells, IsEmptyRange, IsOver, RunTold, Setup}
use Rattle.xet_ties.specs.Ties.{MayLeave, Slack, Stop, Ties}

-- what an answer makes of a run
abbrev pub stop_of : Result ℕ FileReconstructionError → Stop
stop_of (Ok k) = None
stop_of (Err e) = Some e

-- all that was planned is admitted and written, and the range was planned to its end or the file's
pub record IsFinished (g : Setup) (es : List Event) (k : ℕ) : Type 0 where
  pub count : k ≡ written es
  pub admitted : count_by is_admit es ≡ length (planned es)
  pub unwritten : unwritten es ≡ 0
  pub reaches : g.range.start < g.range.end → ReachesEnd g.range es
  pub empty : IsEmptyRange g.range → es ≡ []

-- the writer took the pieces of all planned terms that have bytes, and they were counted
pub record TookAll (g : Setup) (es : List Event) (slack : Slack) (before after : SinkTold) (k : ℕ) : Type 0 where
  pub pieces : List (List ℕ)
  pub each : AllZip (IsTaskPiece g slack.heard slack.looks) (some_of es) pieces
  pub took : Took before.took after.took (concat pieces)
  pub total : k ≡ length (concat pieces)

-- the arguments that aren't asked over an empty range are as before
pub record IsUntouched (before after : RunTold) : Type 0 where
  pub clients : after.clients ≡ before.clients
  pub cache : after.cache ≡ before.cache
  pub signal : after.signal ≡ before.signal
  pub limits : after.limits ≡ before.limits

-- the errors that come without a connection: want of memory, a failing setting, and the writer's, as in a flush
abbrev pub IsLocal : FileReconstructionError → Type 0
IsLocal error.OutOfMemory = Unit {0}
IsLocal error.IoError = Unit {0}
IsLocal (error.ConfigurationError e) = Unit {0}
IsLocal e = ⊥

-- nothing was asked, taken and counted, and an error needs no connection
pub record DidNothing (before after : RunTold) (answer : Result ℕ FileReconstructionError) : Type 0 where
  pub untouched : IsUntouched before after
  pub took : after.sink.took ≡ before.sink.took
  pub none : IfOk answer (λ k. k ≡ 0)
  pub error : IfErr answer IsLocal

-- no call of the writer failed, by its count of faults, unless the answer is the writer's error or want of memory
abbrev pub Unfailed : ℕ → ℕ → Result ℕ FileReconstructionError → Type 0
Unfailed before after (Ok k) = after ≡ before
Unfailed before after (Err error.OutOfMemory) = Unit {0}
Unfailed before after (Err error.IoError) = Unit {0}
Unfailed before after (Err e) = after ≡ before

-- the answers of a run that was told to stop: that it was cancelled, or want of memory
abbrev pub IsCancelled : Result ℕ FileReconstructionError → Type 0
IsCancelled (Err error.OutOfMemory) = Unit {0}
IsCancelled (Err error.Cancelled) = Unit {0}
IsCancelled answer = ⊥

-- Ok, and the errors that end a run between its turns, where no block's tries are used up
abbrev pub IsUnspent : Stop → Type 0
IsUnspent None = Unit {0}
IsUnspent (Some error.FileNotFound) = Unit {0}
IsUnspent (Some error.Cancelled) = Unit {0}
IsUnspent stop = ⊥

-- the ties at the end of a run, with what it left that no event says, and its error's cause by what was heard
pub record RunTies (g : Setup) (before after : RunTold) (es : List Event) (stop : Stop) : Type 0 where
  pub slack : Slack
  pub ties : Ties g before after es stop slack
  pub left : MayLeave stop before.clients slack
  pub cause : IfSome stop (Cause g slack.heard before after)
  -- where the run ended so, each block expired fewer times than it may be asked for
  pub under : IsUnspent stop → (p k : ℕ) → count_by (expires p k) es < g.tries

-- a failing setting is told before all else
pub record IsRefused (before after : RunTold) (es : List Event) (answer : Result ℕ FileReconstructionError)
    (e : Setting) : Type 0 where
  pub answered : answer ≡ Err (error.ConfigurationError e)
  pub events : es ≡ []
  pub same : after ≡ before

-- one call of a run over a core that had no events
pub record RunCall (g : Setup) (before after : RunTold) (es : List Event)
    (answer : Result ℕ FileReconstructionError) : Type 0 where
  pub settings : (e : Setting) → refused_setting g before.clients ≡ Some e → IsRefused before after es answer e
  pub tied : refused_setting g before.clients ≡ None → RunTies g before after es (stop_of answer)
  pub finished : IfOk answer (IsFinished g es)
  pub flushed : OnOk answer (after.sink.flushed ≡ option_map length after.sink.took)
  pub cancelled : before.signal.yes < after.signal.yes → IsCancelled answer
  pub unfailed : Unfailed before.sink.faults after.sink.faults answer
  pub empty : IsEmptyRange g.range → DidNothing before after answer
  pub cache_later : (s : Store) → IsOver s before.clients → CacheTells s before.cache → CacheTells s after.cache
