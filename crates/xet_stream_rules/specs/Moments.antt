-- How the parts of a step leave a stream's history, leader, connections and cache.
use Rattle.std.specs.Prelude.{List}
use Rattle.xet_base.specs.Store.{Store}
use Rattle.xet_outside.specs.Told.{CacheTold, ClientTold}
use Rattle.xet_events.specs.declared.event.Event.{Event}
use Rattle.xet_events.specs.Events.{planned}
use Rattle.xet_history.specs.TrueHistory.{IsTrueHistory}
use Rattle.xet_ties.specs.Setup.{EachGoesOn, IsOver, RunTold, Setup, download_of}
use Rattle.xet_ties.specs.Ties.{FirstStarts}
use Rattle.xet_leader.specs.Led.{Led}
use Rattle.xet_stream_rules.specs.Streams.{Carries, TellsAs}

-- a moment of a step
pub record At : Type 0 where
  pub events : List Event
  pub led : Led
  pub clients : List ClientTold
  pub cache : CacheTold

abbrev pub at : List Event → Led → List ClientTold → CacheTold → At
at es l cs k = record { events = es; led = l; clients = cs; cache = k }

-- from one moment to a later one: what connections and cache tell is told still, and a history that was true of it is
pub record Lasts (g : Setup) (x y : At) : Type 0 where
  pub goes_on : EachGoesOn x.clients y.clients
  pub tells : (b : RunTold) → TellsAs b x.clients x.cache → TellsAs b y.clients y.cache
  pub true_of : (s : Store) → IsOver s x.clients → IsTrueHistory s (download_of g) x.events
      → IsTrueHistory s (download_of g) y.events
  pub starts : FirstStarts g.range.start (planned x.events) → FirstStarts g.range.start (planned y.events)

-- and a leader that was one of a run is
pub record Goes (g : Setup) (x y : At) : Type 0 where
  pub lasts : Lasts g x y
  pub carries : (b : RunTold) → TellsAs b x.clients x.cache → Carries b g x.events x.led → Carries b g y.events y.led
