-- A run up to its end.
use Rattle.std.specs.Prelude.{◌≡◌, false, [], None, OnOk, IfErr}
use Rattle.xet_outside.specs.Told.{SinkTold}
use Rattle.xet_events.specs.Events.{written}
use Rattle.xet_writers.specs.Sequential.{Sequential}
use Rattle.xet_ties.specs.RunCalls.{IsFinished}
use Rattle.xet_ties.specs.Setup.{RunTold, Setup}
use Rattle.xet_leader.specs.Led.{Led}
use Rattle.xet_leader.specs.Plans.{Answer}
use Rattle.xet_leader.specs.Steady.{IsFailing, IsSteady, Moment, no_loose}

-- a writer that took nothing yet
pub record IsFresh {S : Type 0} (w : Sequential S) : Type 0 where
  pub queue : w.queue ≡ []
  pub kept : w.kept ≡ None
  pub open_still : w.finished ≡ false
  pub expected : w.expected ≡ 0
  pub delivered : w.delivered ≡ 0

-- a run that is led to its end: it is steady
pub record LedToEnd {S : Type 0} (told : S → SinkTold) (g : Setup) (b : RunTold) (n : Moment)
    (w : Sequential S) : Type 0 where
  pub led : Led
  pub steady : IsSteady told g b n no_loose led w
  pub finished : IsFinished g n.events (written n.events)

-- a run up to its end: all is planned and written, or it is to stop with its error
pub record RunLed {S : Type 0} (told : S → SinkTold) (g : Setup) (b : RunTold) (n : Moment) (w : Sequential S)
    (answer : Answer) : Type 0 where
  pub ok : OnOk answer (LedToEnd told g b n w)
  pub err : IfErr answer (IsFailing g b n)
