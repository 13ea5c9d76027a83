-- What a join, and the settling of what it left, do to a run.
use Rattle.std.specs.Prelude.{◌≡◌, Bool, List, ◌∷◌, OnOk}
use Rattle.xet_outside.specs.Told.{CacheTold, ClientTold, SinkTold}
use Rattle.xet_events.specs.declared.event.Event.{Event}
use Rattle.xet_writers.specs.Sequential.{Sequential}
use Rattle.xet_ties.specs.Setup.{RunTold, Setup}
use Rattle.xet_stages.specs.declared.outcomes.Outcome.{Outcome}
use Rattle.xet_leader.specs.Admission.{SameCounts}
use Rattle.xet_turns.specs.JoinedRuns.{Joining}
use Rattle.xet_leader.specs.Led.{Led}
use Rattle.xet_stages.specs.Measures.{LeavesLess}
use Rattle.xet_leader.specs.Plans.{Answer}
use Rattle.xet_leader.specs.Settling.{SettleLeads, SettleTurn}
use Rattle.xet_leader.specs.Steady.{IsSteady, LeadCall, Moment, no_loose}
use Rattle.xet_turns.specs.Turns.{IsSteadyRun}

-- what is told of a run at this moment
pub record IsSeenAt {S : Type 0} (m : Moment) (a : Joining S) : Type 0 where
  pub clients : m.told.clients ≡ a.clients
  pub cache : m.told.cache ≡ a.cache
  pub signal : m.told.signal ≡ a.signal
  pub events : m.events ≡ a.events

-- a moment where this is told, and else as this one
abbrev pub seen_at : {S : Type 0} → (S → SinkTold) → Moment → Joining S → Moment
seen_at told m z = record {
  told = record m.told { clients = z.clients; cache = z.cache; signal = z.signal; sink = told z.writer.sink };
  events = z.events;
}

-- so is a run that is steady, from some start
pub record CanWork {S : Type 0} (told : S → SinkTold) (g : Setup) (a : Joining S) : Type 0 where
  pub moment : Moment
  pub at : IsSeenAt moment a
  pub run : IsSteadyRun told g moment a.led a.writer

-- the outcome was settled by the first connection; the others are as before
pub record FirstSettled (multi : Bool) (o : Outcome) (cs ns : List ClientTold) (c d : CacheTold) (es fs : List Event)
    (l k : Led) (answer : Answer) : Type 0 where
  pub first : ClientTold
  pub next : ClientTold
  pub others : List ClientTold
  pub before : cs ≡ first ∷ others
  pub after : ns ≡ next ∷ others
  pub turn : SettleTurn multi o.served.items o.stale.items
      (record { client = first; cache = c; events = es; led = l })
      (record { client = next; cache = d; events = fs; led = k }) answer
  pub leads : SettleLeads multi o.served.items o.stale.items
      (record { client = first; cache = c; events = es; led = l })
      (record { client = next; cache = d; events = fs; led = k }) answer

-- over any start, a steady run is steady after a join and what is settled then, or is to stop with its error; and no
-- more is left
pub record WorkCall {S : Type 0} (told : S → SinkTold) (g : Setup) (m n : Moment) (l k : Led) (v w : Sequential S)
    (answer : Answer) : Type 0 where
  pub call : LeadCall told g m n no_loose no_loose l k v w answer
  pub less : (b : RunTold) → IsSteady told g b m no_loose l v → OnOk answer (LeavesLess g m.events n.events l k)
  -- as many terms are planned and admitted
  pub counts : OnOk answer (SameCounts l k)

-- so over the moment of a run of which this is told
abbrev pub WorkLeads : {S : Type 0} → (S → SinkTold) → Setup → Joining S → Joining S → Answer → Type 0
WorkLeads told g a z answer = (m : Moment) → IsSeenAt m a
    → WorkCall told g m (seen_at told m z) a.led z.led a.writer z.writer answer
