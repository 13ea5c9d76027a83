-- How a window of the next terms stands to the run.
use Rattle.std.specs.Prelude.{ℕ, ◌≡◌, ◌+◌, ◌<◌, ◌≤◌, ◌++◌, true, false, List, length, map, filter, drop, slice_get}
use Rattle.std.specs.Prelude.{Some, None, Result, IfOk, IfErr}
use Rattle.std.specs.List.{AllZip}
use Rattle.xet_base.specs.Store.{Store}
use Rattle.xet_error.specs.declared.error.FileReconstructionError.{FileReconstructionError}
use Rattle.xet_events.specs.declared.event.Event.{Event}
use Rattle.xet_events.specs.Events.{Task, is_kept, planned, size}
use Rattle.xet_history.specs.TrueHistory.{task_piece}
use Rattle.xet_writers.specs.Calls.{closed_by}
use Rattle.xet_writers.specs.Sequential.{Sequential, told_of}
use Rattle.xet_ties.specs.Saids.{IsTaskPiece, has_bytes}
use Rattle.xet_ties.specs.Setup.{CacheTells, IsOver, RunTold, Setup}
use Rattle.xet_ties.specs.Ties.{Slack}
use Rattle.xet_ties.specs.Windows.{AreKept}
use Rattle.xet_leader.specs.Led.{Led}
use Rattle.xet_leader.specs.Steady.{IsFailing, IsGoing, Loose, Moment}
use Rattle.xet_stages.specs.Windows.{with_pieces}

-- pieces of the next planned terms, which are admitted and whose blocks are kept where they have bytes: each is of
-- tested data, and over one valid store it is the history's. An admitted term after them, if there is one, has bytes,
-- and its block isn't kept
pub record IsWindow (g : Setup) (b : RunTold) (es : List Event) (sl : Slack) (l : Led) (lengths : List ℕ)
    (pieces : List (List ℕ)) : Type 0 where
  pub tasks : List Task
  pub rest : List Task
  pub next : drop l.finished (planned es) ≡ tasks ++ rest
  pub within : l.finished + length tasks ≤ l.admitted
  pub lengths_are : lengths ≡ map size tasks
  pub kept : AreKept es tasks
  pub tested : AllZip (IsTaskPiece g sl.heard sl.looks) (filter has_bytes tasks) pieces
  pub honest : (s : Store) → IsOver s b.clients → CacheTells s b.cache
      → pieces ≡ map (task_piece s) (filter has_bytes tasks)
  pub stops : (t : Task) → l.finished + length tasks < l.admitted → slice_get rest 0 ≡ Some t
      → (has_bytes t ≡ true) × (is_kept es t.plan t.term.block ≡ false)

-- a writer that is open holds them
pub record WindowGoes {S : Type 0} (g : Setup) (b : RunTold) (es : List Event) (sl : Slack) (l : Led)
    (v w : Sequential S) (lengths : List ℕ) : Type 0 where
  pub pieces : List (List ℕ)
  pub window : IsWindow g b es sl l lengths pieces
  pub writer : closed_by (told_of v) ≡ None → w ≡ with_pieces v pieces

-- over any start, of a run that goes on the window is made; or, where the writer is open, it is to stop
pub record WindowPart {S : Type 0} (g : Setup) (b : RunTold) (m : Moment) (sl : Slack) (l : Led) (v w : Sequential S)
    (answer : Result (List ℕ) FileReconstructionError) : Type 0 where
  pub ok : IfOk answer (WindowGoes g b m.events sl l v w)
  pub err : IfErr answer (λ e. closed_by (told_of v) ≡ None → IsFailing g b m e)

abbrev pub WindowLeads : {S : Type 0} → Led → Sequential S → Sequential S
    → Result (List ℕ) FileReconstructionError → Type 0
WindowLeads l v w answer = (g : Setup) (b : RunTold) (m : Moment) (o : Loose) → (s : IsGoing g b m o l)
    → WindowPart g b m s.slack l v w answer
