-- What settling a round does to a leader and to a run.
use Rattle.std.specs.Prelude.{ℕ, ◌≡◌, ◌⊎◌, Bool, List, [], ◌∷◌, Ok, Err}
use Rattle.xet_outside.specs.Told.{CacheTold, ClientTold}
use Rattle.xet_error.specs.declared.error.FileReconstructionError.{FileReconstructionError}
use Rattle.xet_events.specs.declared.event.Event.{Event}
use Rattle.xet_ties.specs.Setup.{Setup}
use Rattle.xet_leader.specs.declared.missing_blocks.BlockAt.{BlockAt}
use Rattle.xet_leader.specs.Led.{Led}
use Rattle.xet_leader.specs.Offering.{AreServed, OfferCalls, due_of}
use Rattle.xet_leader.specs.Plans.{Answer}
use Rattle.xet_leader.specs.Refreshing.{RefreshTurn}
use Rattle.xet_leader.specs.Steady.{LeadPart, Moment, no_loose}

-- what settling touches: what the first connection and the cache tell, the history, and the leader
pub record Reached : Type 0 where
  pub client : ClientTold
  pub cache : CacheTold
  pub events : List Event
  pub led : Led

-- the blocks were offered, and then the stale plans were asked for
pub record BothSettled (multi : Bool) (places : List BlockAt) (stale : List ℕ) (a b : Reached)
    (answer : Answer) : Type 0 where
  pub offered : OfferCalls a.led.plans places a.cache b.cache (Ok tt)
  pub refreshed : RefreshTurn multi stale a.client b.client a.events b.events a.led b.led answer

-- an offer found no memory, and nothing else was done
pub record OfferedShort (places : List BlockAt) (a b : Reached) (answer : Answer) : Type 0 where
  pub error : FileReconstructionError
  pub is : answer ≡ Err error
  pub offered : OfferCalls a.led.plans places a.cache b.cache (Err error)
  pub rest : b ≡ record a { cache = b.cache }

-- one call of `settle`
abbrev pub SettleTurn : Bool → List BlockAt → List ℕ → Reached → Reached → Answer → Type 0
SettleTurn multi places stale a b answer = BothSettled multi places stale a b answer ⊎ OfferedShort places a b answer

-- over the moment of a run whose first connection and cache tell this, where these blocks are due and keep data and
-- these plans are stale: nothing is loose after it, or the run is to stop
abbrev pub SettleLeads : Bool → List BlockAt → List ℕ → Reached → Reached → Answer → Type 0
SettleLeads multi places stale a b answer = (g : Setup) (m : Moment) (cs : List ClientTold) → g.multirange ≡ multi
    → m.told.clients ≡ a.client ∷ cs → m.told.cache ≡ a.cache → m.events ≡ a.events
    → AreServed m.events a.led.plans places
    → LeadPart g m
    (record { told = record m.told { clients = b.client ∷ cs; cache = b.cache }; events = b.events })
    (record { pending = []; due = due_of m.events places; stale = stale; polls = 0 }) no_loose a.led b.led answer
