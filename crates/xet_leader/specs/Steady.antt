-- Where a run stands between the parts of a turn, and how it fails.
use Rattle.std.specs.Prelude.{ℕ, ◌≡◌, ◌<◌, false, List, [], count_by, length, None, Some, Result, Err, OnOk, IfErr}
use Rattle.xet_base.specs.Store.{Store}
use Rattle.xet_outside.specs.Told.{SinkTold}
use Rattle.xet_error.specs.declared.error.FileReconstructionError.{FileReconstructionError}
use Rattle.xet_error.specs.declared.error.FileReconstructionError.TheVariants as error
use Rattle.xet_events.specs.declared.event.Event.{Event}
use Rattle.xet_events.specs.declared.event.PlannedBlock.{PlannedBlock}
use Rattle.xet_events.specs.Events.{expires, written}
use Rattle.xet_writers.specs.Sequential.{Sequential}
use Rattle.xet_ties.specs.Causes.{Cause}
use Rattle.xet_ties.specs.RunCalls.{IsCancelled, IsUnspent, Unfailed}
use Rattle.xet_ties.specs.Saids.{InStep}
use Rattle.xet_ties.specs.Setup.{CacheTells, IsOver, RunTold, Setup}
use Rattle.xet_ties.specs.Moves.{no_hidden, no_late}
use Rattle.xet_ties.specs.Ties.{MayLeave, Slack, Ties}
use Rattle.xet_leader.specs.Led.{IsLed, Led}

-- what a run's arguments tell, and its history
pub record Moment : Type 0 where
  pub told : RunTold
  pub events : List Event

-- what a part of a turn leaves for the next part: the blocks that are to be fetched, how many fetched ones are to be
-- offered to the cache, the plans whose URLs are to be asked for again, and how often the signal was asked for the
-- fetches. Nothing between turns
pub record Loose : Type 0 where
  pub pending : List PlannedBlock
  pub due : ℕ
  pub stale : List ℕ
  pub polls : ℕ

abbrev pub no_loose : Loose
no_loose = record { pending = []; due = 0; stale = []; polls = 0 }

-- all that was told is recorded, but for what is loose
pub record IsSettled (b : RunTold) (o : Loose) (sl : Slack) : Type 0 where
  pub hidden : sl.hidden ≡ no_hidden b.clients
  pub late : sl.late ≡ no_late b.clients
  pub lost : sl.lost ≡ []
  pub ahead : sl.ahead ≡ 0
  pub spare : sl.spare ≡ o.polls
  pub pending : sl.pending ≡ o.pending
  pub due : sl.due ≡ o.due
  pub step : InStep sl.heard
  -- no connection told a fault
  pub calm : sl.calm ≡ length b.clients

-- the writer holds nothing back: it took what was written
pub record IsIdle {S : Type 0} (told : S → SinkTold) (m : Moment) (w : Sequential S) : Type 0 where
  pub sink : m.told.sink ≡ told w.sink
  pub queue : w.queue ≡ []
  pub kept : w.kept ≡ None
  pub open_still : w.finished ≡ false
  pub expected : w.expected ≡ written m.events
  pub delivered : w.delivered ≡ written m.events

-- a run that goes on, between the parts of a turn
pub record IsGoing (g : Setup) (b : RunTold) (m : Moment) (o : Loose) (l : Led) : Type 0 where
  pub slack : Slack
  pub ties : Ties g b m.told m.events None slack
  pub settled : IsSettled b o slack
  pub led : IsLed g b m.events slack o.stale l
  pub calm : m.told.signal.yes ≡ b.signal.yes
  pub unfailed : m.told.sink.faults ≡ b.sink.faults
  pub cache_tells : (s : Store) → IsOver s b.clients → CacheTells s b.cache → CacheTells s m.told.cache

-- whose writer is idle
pub record IsSteady {S : Type 0} (told : S → SinkTold) (g : Setup) (b : RunTold) (m : Moment) (o : Loose) (l : Led)
    (w : Sequential S) : Type 0 where
  pub going : IsGoing g b m o l
  pub writer : IsIdle told m w

-- a run that is to stop with this error, which isn't recorded yet
pub record IsFailing (g : Setup) (b : RunTold) (m : Moment) (e : FileReconstructionError) : Type 0 where
  pub slack : Slack
  pub ties : Ties g b m.told m.events None slack
  pub left : MayLeave (Some e) b.clients slack
  pub cause : Cause g slack.heard b m.told e
  pub unfailed : Unfailed b.sink.faults m.told.sink.faults (Err e)
  pub spent : e ≡ error.UrlExpired → (p : ℕ) × (k : ℕ) × (count_by (expires p k) m.events ≡ g.tries)
  -- where the signal said yes, that is the error, or want of memory
  pub halted : b.signal.yes < m.told.signal.yes → IsCancelled (Err e)
  -- with an error that ends it between its turns no block's tries are used up
  pub under : IsUnspent (Some e) → (p k : ℕ) → count_by (expires p k) m.events < g.tries
  pub cache_tells : (s : Store) → IsOver s b.clients → CacheTells s b.cache → CacheTells s m.told.cache

-- a part of a turn that leaves the writer: over any start, a run that goes on goes on after it, or is to stop with its
-- error
pub record LeadPart {A : Type 0} (g : Setup) (m n : Moment) (o u : Loose) (l k : Led)
    (answer : Result A FileReconstructionError) : Type 0 where
  pub ok : (b : RunTold) → IsGoing g b m o l → OnOk answer (IsGoing g b n u k)
  pub err : (b : RunTold) → IsGoing g b m o l → IfErr answer (IsFailing g b n)

-- a part of a turn: over any start, a steady run is steady after it, or is to stop with its error
pub record LeadCall {A S : Type 0} (told : S → SinkTold) (g : Setup) (m n : Moment) (o u : Loose) (l k : Led)
    (v w : Sequential S) (answer : Result A FileReconstructionError) : Type 0 where
  pub ok : (b : RunTold) → IsSteady told g b m o l v → OnOk answer (IsSteady told g b n u k w)
  pub err : (b : RunTold) → IsSteady told g b m o l v → IfErr answer (IsFailing g b n)
