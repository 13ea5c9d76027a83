-- What a whole join does to a run.
use Rattle.std.specs.Prelude.{ℕ, zero, suc, ◌≡◌, List, Ok, Result, IfErr, IfOk, OnOk}
use Rattle.xet_outside.specs.Told.{CacheTold, ClientTold, SignalTold, SinkTold}
use Rattle.xet_error.specs.declared.error.FileReconstructionError.{FileReconstructionError}
use Rattle.xet_events.specs.declared.event.Event.{Event}
use Rattle.xet_writers.specs.Sequential.{Sequential}
use Rattle.xet_ties.specs.Setup.{RunTold, Setup}
use Rattle.xet_ties.specs.PartCalls.{PollCall}
use Rattle.xet_turns.specs.declared.joining.Prepared.{Prepared}
use Rattle.xet_stages.specs.declared.outcomes.Outcome.{Outcome}
use Rattle.xet_turns.specs.RoundCalls.{IsPrepared, to_settle}
use Rattle.xet_leader.specs.Led.{Led}
use Rattle.xet_stages.specs.Measures.{LeavesLess, LeavesSame}
use Rattle.xet_leader.specs.Offering.{AreServed}
use Rattle.xet_leader.specs.Plans.{Answer}
use Rattle.xet_leader.specs.Steady.{IsFailing, IsSteady, Moment, no_loose}

-- the signal was asked once for so many fetches; for none it wasn't asked and said nothing
abbrev pub PolledFor : ℕ → SignalTold → SignalTold → Answer → Type 0
PolledFor zero x y answer = (y ≡ x) × (answer ≡ Ok tt)
PolledFor (suc count) x y answer = PollCall x y answer

-- ---- before a round

-- what preparing one touches
pub record Touching (S : Type 0) : Type 0 where
  pub cache : CacheTold
  pub signal : SignalTold
  pub events : List Event
  pub led : Led
  pub writer : Sequential S

-- over any start, a steady run is prepared after it, or is to stop
pub record PrepareLead {S : Type 0} (told : S → SinkTold) (g : Setup) (m n : Moment) (l k : Led) (v w : Sequential S)
    (answer : Result Prepared FileReconstructionError) : Type 0 where
  pub ok : (b : RunTold) → IsSteady told g b m no_loose l v
      → IfOk answer (λ p. IsPrepared told g b n k p.places p.lengths w)
  pub err : (b : RunTold) → IsSteady told g b m no_loose l v → IfErr answer (IsFailing g b n)
  -- and no more is left
  pub same : OnOk answer (LeavesSame g m.events n.events l k)

abbrev pub PrepareLeads : {S : Type 0} → (S → SinkTold) → Touching S → Touching S
    → Result Prepared FileReconstructionError → Type 0
PrepareLeads told a z answer = (g : Setup) (m : Moment) → m.told.cache ≡ a.cache → m.told.signal ≡ a.signal
    → m.events ≡ a.events → PrepareLead told g m
    (record { told = record m.told { cache = z.cache; signal = z.signal }; events = z.events }) a.led z.led a.writer
    z.writer answer

-- ---- the join

-- what it touches
pub record Joining (S : Type 0) : Type 0 where
  pub clients : List ClientTold
  pub cache : CacheTold
  pub signal : SignalTold
  pub events : List Event
  pub led : Led
  pub writer : Sequential S

-- some run is steady, of which this is told
pub record CanJoin {S : Type 0} (told : S → SinkTold) (cs : List ClientTold) (c : CacheTold) (x : SignalTold)
    (es : List Event) (l : Led) (v : Sequential S) : Type 0 where
  pub setup : Setup
  pub start : RunTold
  pub moment : Moment
  pub clients_are : moment.told.clients ≡ cs
  pub cache_is : moment.told.cache ≡ c
  pub signal_is : moment.told.signal ≡ x
  pub events_are : moment.events ≡ es
  pub steady : IsSteady told setup start moment no_loose l v

-- over any start, a steady run is steady after it and has blocks to offer, which keep data, and plans to ask for
-- again;
-- or it is to stop
pub record JoinLead {S : Type 0} (told : S → SinkTold) (g : Setup) (m n : Moment) (l k : Led) (v w : Sequential S)
    (answer : Result Outcome FileReconstructionError) : Type 0 where
  pub ok : (b : RunTold) → IsSteady told g b m no_loose l v
      → IfOk answer (λ o. IsSteady told g b n (to_settle n.events o) k w ×
      AreServed n.events k.plans o.served.items)
  pub err : (b : RunTold) → IsSteady told g b m no_loose l v → IfErr answer (IsFailing g b n)
  -- and no more is left, but less where an admitted term wasn't written
  pub less : (b : RunTold) → IsSteady told g b m no_loose l v → OnOk answer (LeavesLess g m.events n.events l k)

-- so over the moment of a run of which these are told
abbrev pub JoinLeads : {S : Type 0} → (S → SinkTold) → ℕ → Joining S → Joining S
    → Result Outcome FileReconstructionError → Type 0
JoinLeads told tries a z answer = (g : Setup) (m : Moment) → g.tries ≡ tries → m.told.clients ≡ a.clients
    → m.told.cache ≡ a.cache → m.told.signal ≡ a.signal → m.events ≡ a.events → JoinLead told g m
    (record {
      told = record m.told { clients = z.clients; cache = z.cache; signal = z.signal; sink = told z.writer.sink };
      events = z.events;
    })
    a.led z.led a.writer z.writer answer
