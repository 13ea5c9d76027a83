-- What the work of a step does to a stream.
use Rattle.std.specs.Prelude.{ℕ, ◌≡◌, ◌≤◌, ◌++◌, List, [], All, length}
use Rattle.xet_events.specs.declared.event.Event.{Event}
use Rattle.xet_events.specs.Allowed.{IsRunning}
use Rattle.xet_events.specs.Limits.{LimitTold}
use Rattle.xet_parts.specs.Admissions.{GaveLimits}
use Rattle.xet_ties.specs.History.{limits_of}
use Rattle.xet_ties.specs.Setup.{Setup}
use Rattle.xet_stream_rules.specs.Moments.{At, Goes, Lasts}
use Rattle.xet_stream_rules.specs.StepTold.{Asks, IsFew, IsOf, IsRecorded}
use Rattle.xet_stream_rules.specs.StepTold.{StepCache, StepCalls, counted_fetches}

-- so far
pub record Worked (g : Setup) (x y : At) (before after : LimitTold) : Type 0 where
  pub new : List Event
  pub added : y.events ≡ x.events ++ new
  pub few : IsFew new
  pub asks : Asks
  pub calls : StepCalls g.file asks x.led.fetches x.clients y.clients
  pub events : All (IsOf calls.lane asks) new
  pub cache : StepCache new x.cache y.cache
  pub unused : List ℕ
  pub limits : GaveLimits before after (limits_of new ++ unused)
  pub few_unused : length unused ≤ 1
  pub lasts : Lasts g x y
  pub running : IsRunning new

-- and all of it was recorded
pub record WorkedWell (g : Setup) (x y : At) (before after : LimitTold) : Type 0 where
  pub work : Worked g x y before after
  pub goes : Goes g x y
  pub recorded : IsRecorded work.asks work.new
  pub used : work.unused ≡ []
  pub counted : y.led.fetches ≡ counted_fetches x.led.fetches work.asks.block
