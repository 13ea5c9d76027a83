-- What providing the block of the next term does to a stream.
use Rattle.std.specs.Prelude.{ℕ, ◌≡◌, ◌⊎◌, ◌++◌, true, List, [], ◌∷◌, length, min, Option, Some, None, IfSome}
use Rattle.xet_base.specs.declared.cas_types.FileRange.{FileRange}
use Rattle.xet_outside.specs.Told.{ClientTold}
use Rattle.xet_offers.specs.declared.reconstruction_terms.xorb_block.XorbBlockData.{XorbBlockData}
use Rattle.xet_events.specs.declared.event.Event.{Event}
use Rattle.xet_events.specs.declared.event.Event.TheVariants.{Cached, Expired, Fetched, Refreshed}
use Rattle.xet_events.specs.Events.{is_kept}
use Rattle.xet_ties.specs.declared.lane_step.LaneStep.{LaneStep}
use Rattle.xet_ties.specs.declared.lane_step.LaneStep.TheVariants as step
use Rattle.xet_ties.specs.Lanes.{Ask}
use Rattle.xet_ties.specs.Setup.{Setup, most_lanes}
use Rattle.xet_leader.specs.declared.missing_blocks.BlockAt.{BlockAt}
use Rattle.xet_stream_rules.specs.StepTold.{IsTurn, MayAskFirst, MayAskLane, StepCache, counted_fetches}
use Rattle.xet_stream_rules.specs.Moments.{At, Goes}

-- what was asked for the block, and its events: it is kept, or the cache gave it; a connection gave it; or its URL had
-- expired, and the plan was asked for again
abbrev pub IsProvision : ℕ → BlockAt → Option (Ask × LaneStep) → Option FileRange → List Event → Type 0
IsProvision lane c None None new = (new ≡ []) ⊎ (new ≡ Cached c.plan c.block ∷ [])
IsProvision lane c (Some a) None new = (p : ℕ) × (k : ℕ) × (d : XorbBlockData) × (a.1 ≡ step.Served p k d)
    × (p ≡ c.plan) × (k ≡ c.block) × (new ≡ Fetched lane c.plan c.block ∷ [])
IsProvision lane c (Some a) (Some q) new = (a.1 ≡ step.Expired c.plan c.block)
    × (new ≡ Expired lane c.plan c.block ∷ Refreshed c.plan ∷ [])
IsProvision lane c None (Some q) new = ⊥

-- it was asked for so
pub record Provides (g : Setup) (x y : At) (c : BlockAt) : Type 0 where
  pub block : Option (Ask × LaneStep)
  pub again : Option FileRange
  pub new : List Event
  pub added : y.events ≡ x.events ++ new
  pub lane : ℕ
  pub turn : IfSome block (λ _. IsTurn x.led.fetches (min (length x.clients) most_lanes) lane)
  pub fetched : List ClientTold
  pub asked : MayAskLane lane block x.clients fetched
  pub renewed : MayAskFirst g.file again fetched y.clients
  pub is : IsProvision lane c block again new
  pub cache : StepCache new x.cache y.cache
  -- unless the plan was asked for again, it is kept now
  pub kept : again ≡ None → is_kept y.events c.plan c.block ≡ true
  pub goes : Goes g x y
  pub fetches : y.led.fetches ≡ counted_fetches x.led.fetches block
  pub finished : y.led.finished ≡ x.led.finished
  pub admitted : y.led.admitted ≡ x.led.admitted
