-- What asking for a block does to a stream, and what follows on the answer.
use Rattle.std.specs.Prelude.{ℕ, ◌≡◌, ◌⊎◌, ◌+◌, ◌-◌, ◌^◌, ◌++◌, Bool, true, List, [], ◌∷◌, Ok, Err, Option, Some, None}
use Rattle.std.specs.Prelude.{length}
use Rattle.std.specs.Prelude.{min}
use Rattle.xet_base.specs.declared.cas_types.FileRange.{FileRange}
use Rattle.xet_outside.specs.Told.{CacheTold, ClientTold}
use Rattle.xet_error.specs.declared.error.FileReconstructionError.{FileReconstructionError}
use Rattle.xet_error.specs.declared.error.FileReconstructionError.TheVariants as error
use Rattle.xet_offers.specs.declared.reconstruction_terms.xorb_block.XorbBlockData.{XorbBlockData}
use Rattle.xet_events.specs.declared.event.Event.{Event}
use Rattle.xet_events.specs.declared.event.Event.TheVariants.{Expired, Fetched}
use Rattle.xet_events.specs.Events.{is_kept}
use Rattle.xet_ties.specs.declared.lane_step.LaneStep.{LaneStep}
use Rattle.xet_ties.specs.Lanes.{Ask}
use Rattle.xet_ties.specs.Setup.{Setup, most_lanes}
use Rattle.xet_leader.specs.declared.missing_blocks.BlockAt.{BlockAt}
use Rattle.xet_leader.specs.ByNumber.{plan_index}
use Rattle.xet_leader.specs.Keeping.{kept_one}
use Rattle.xet_leader.specs.Led.{Led}
use Rattle.xet_leader.specs.Offering.{OfferedBlock}
use Rattle.xet_leader.specs.Plans.{Answer, block_there}
use Rattle.xet_leader.specs.Stepping.{CountedAt, RefreshedPlan}
use Rattle.xet_stream_rules.specs.StepTold.{AsksLane, IsTurn, MayAskFirst, OffersOnce}
use Rattle.xet_stream_rules.specs.Moments.{At, Goes}
use Rattle.xet_stream_blocks.specs.Providing.{IsProvision}

-- memory was wanting to record the answer, and all is as before
pub record Unrecorded (es fs : List Event) (l k : Led) (answer : Answer) : Type 0 where
  pub memory : answer ≡ Err error.OutOfMemory
  pub events : fs ≡ es
  pub led : k ≡ l

-- the block is recorded as fetched by this lane, keeps its data, and is offered to the cache
pub record Served (lane : ℕ) (c : BlockAt) (d : XorbBlockData) (t u : CacheTold) (es fs : List Event) (l k : Led)
    (answer : Answer) : Type 0 where
  pub events : fs ≡ es ++ Fetched lane c.plan c.block ∷ []
  pub led : k ≡ record l { plans = kept_one (c.plan, c.block, d) l.plans }
  pub offered : OfferedBlock (block_there k.plans c.block (plan_index k.plans c.plan)) t u answer

-- one call of `keep`
abbrev pub KeepCall : ℕ → BlockAt → XorbBlockData → CacheTold → CacheTold → List Event → List Event → Led → Led → Answer
    → Type 0
KeepCall lane c d t u es fs l k answer =
    (Unrecorded es fs l k answer × (u ≡ t)) ⊎ Served lane c d t u es fs l k answer

-- the block is recorded as expired on this lane, and its tries are used up by that
pub record Spends (lane : ℕ) (c : BlockAt) (tries : ℕ) (es fs : List Event) (l k : Led)
    (e : FileReconstructionError) : Type 0 where
  pub events : fs ≡ es ++ Expired lane c.plan c.block ∷ []
  pub counted : CountedAt tries c l k (Err e)

-- or they aren't, and the first connection is asked for the plan's URLs again
pub record Renews (lane : ℕ) (c : BlockAt) (tries : ℕ) (multi : Bool) (first next : ClientTold) (es fs : List Event)
    (l k : Led) (answer : Answer) : Type 0 where
  pub middle : Led
  pub counted : CountedAt tries c l middle (Ok tt)
  pub call : RefreshedPlan multi c.plan first next (es ++ Expired lane c.plan c.block ∷ []) fs middle k answer

-- one call of `expire`
abbrev pub ExpireCall : ℕ → BlockAt → ℕ → Bool → ClientTold → ClientTold → List Event → List Event → Led → Led → Answer
    → Type 0
ExpireCall lane c tries multi first next es fs l k answer =
    (Unrecorded es fs l k answer × (next ≡ first))
    ⊎ ((e : FileReconstructionError) × (answer ≡ Err e) × Spends lane c tries es fs l k e × (next ≡ first))
    ⊎ Renews lane c tries multi first next es fs l k answer

-- so of the first of these connections, and the others are as before
pub record FirstExpires (lane : ℕ) (c : BlockAt) (tries : ℕ) (multi : Bool) (cs ns : List ClientTold)
    (es fs : List Event) (l k : Led) (answer : Answer) : Type 0 where
  pub first : ClientTold
  pub next : ClientTold
  pub others : List ClientTold
  pub before : cs ≡ first ∷ others
  pub after : ns ≡ next ∷ others
  pub call : ExpireCall lane c tries multi first next es fs l k answer

-- ---- one fetch

-- the block was asked for, and its answer is recorded
pub record Fetches (g : Setup) (x y : At) (c : BlockAt) : Type 0 where
  pub ask : Ask
  pub step : LaneStep
  pub again : Option FileRange
  pub new : List Event
  pub added : y.events ≡ x.events ++ new
  pub lane : ℕ
  pub turn : IsTurn x.led.fetches (min (length x.clients) most_lanes) lane
  pub fetched : List ClientTold
  pub asked : AsksLane lane ask step x.clients fetched
  pub renewed : MayAskFirst g.file again fetched y.clients
  pub is : IsProvision lane c (Some (ask, step)) again new
  pub offer : OffersOnce x.cache y.cache
  -- unless the plan was asked for again, it is kept now
  pub kept : again ≡ None → is_kept y.events c.plan c.block ≡ true
  pub goes : Goes g x y
  pub fetches : y.led.fetches ≡ min (x.led.fetches + 1) (2 ^ 64 - 1)
  pub finished : y.led.finished ≡ x.led.finished
  pub admitted : y.led.admitted ≡ x.led.admitted
