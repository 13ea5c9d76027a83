-- What one step of a stream asks of its connections and of its cache.
use Rattle.std.specs.Prelude.{ℕ, ◌≡◌, ◌+◌, ◌-◌, ◌*◌, ◌^◌, ◌<◌, ◌≤◌, Bool, true, false, min, List, ◌∷◌}
use Rattle.std.specs.Prelude.{count_by}
use Rattle.std.specs.Prelude.{length, slice_get, slice_set, Option, Some, None, IfSome}
use Rattle.xet_base.specs.declared.cas_types.FileRange.{FileRange}
use Rattle.xet_base.specs.declared.merklehash.MerkleHash.{MerkleHash}
use Rattle.xet_outside.specs.Told.{Added, CacheTold, ClientTold}
use Rattle.xet_blocks.specs.TermBlockCalls.{AskedAtMostOnce}
use Rattle.xet_events.specs.declared.event.Event.{Event}
use Rattle.xet_events.specs.declared.event.Event.TheVariants.{Cached, Expired, Fetched, Planned, Refreshed}
use Rattle.xet_events.specs.Events.{is_plan}
use Rattle.xet_ties.specs.declared.lane_step.LaneStep.{LaneStep}
use Rattle.xet_ties.specs.declared.lane_step.LaneStep.TheVariants as step
use Rattle.xet_ties.specs.Gains.{GrewBy}
use Rattle.xet_ties.specs.History.{is_fetch, is_refresh}
use Rattle.xet_ties.specs.InCall.{Look}
use Rattle.xet_ties.specs.Lanes.{Ask, IsFor, StepDid}
use Rattle.xet_ties.specs.Setup.{ClientGoesOn, most_lanes}
use Rattle.xet_stream_rules.specs.Streams.{delivered}

-- ---- how little a step asks

abbrev pub is_cached : Event → Bool
is_cached (Cached plan block) = true
is_cached _ = false

-- the events of a step: at most one plan, one cache entry, one block and one refresh, and no piece yet
pub record IsFew (new : List Event) : Type 0 where
  pub plans : count_by is_plan new ≤ 1
  pub cached : count_by is_cached new ≤ 1
  pub fetched : count_by is_fetch new ≤ 1
  pub refreshes : count_by is_refresh new ≤ 1
  pub pieces : delivered new ≡ 0

-- ---- what it asks

-- the query of a plan, a block with the step that its answer made, and the bytes of a plan whose URLs were asked for
-- again: one of each at most
pub record Asks : Type 0 where
  pub plan : Option FileRange
  pub block : Option (Ask × LaneStep)
  pub again : Option FileRange

-- nothing
abbrev pub no_asks : Asks
no_asks = record { plan = None; block = None; again = None }

-- ---- connections

-- the first connection was asked this query, and the others are as before
pub record AsksFirst (f : MerkleHash) (q : FileRange) (cs ds : List ClientTold) : Type 0 where
  pub first : ClientTold
  pub next : ClientTold
  pub others : List ClientTold
  pub before : cs ≡ first ∷ others
  pub after : ds ≡ next ∷ others
  pub goes_on : ClientGoesOn first next
  pub served : next.served ≡ first.served
  pub asks : AskedAtMostOnce first next (f, q)

-- the connection of this number was asked once for the block, and the others are as before
pub record AsksLane (lane : ℕ) (a : Ask) (s : LaneStep) (cs ds : List ClientTold) : Type 0 where
  pub before : ClientTold
  pub after : ClientTold
  pub at : slice_get cs lane ≡ Some before
  pub is : ds ≡ slice_set cs lane after
  pub own : IsFor a
  pub did : StepDid before after a s

-- where there is a query, or a block
abbrev pub MayAskFirst : MerkleHash → Option FileRange → List ClientTold → List ClientTold → Type 0
MayAskFirst f None cs ds = ds ≡ cs
MayAskFirst f (Some q) cs ds = AsksFirst f q cs ds

abbrev pub MayAskLane : ℕ → Option (Ask × LaneStep) → List ClientTold → List ClientTold → Type 0
MayAskLane lane None cs ds = ds ≡ cs
MayAskLane lane (Some a) cs ds = AsksLane lane a.0 a.1 cs ds

-- the lane whose turn it is: the number of fetches so far, modulo the number of connections
pub record IsTurn (fetches connections lane : ℕ) : Type 0 where
  pub rounds : ℕ
  pub within : lane < connections
  pub turn : fetches ≡ rounds * connections + lane

-- the number of fetches after a block was asked for
abbrev pub counted_fetches : ℕ → Option (Ask × LaneStep) → ℕ
counted_fetches n None = n
counted_fetches n (Some a) = min (n + 1) (2 ^ 64 - 1)

-- the first connection for a plan, the one whose turn it is for a block, and the first again, in this order
pub record StepCalls (f : MerkleHash) (a : Asks) (fetches : ℕ) (cs ds : List ClientTold) : Type 0 where
  pub lane : ℕ
  pub turn : IfSome a.block (λ _. IsTurn fetches (min (length cs) most_lanes) lane)
  pub planned : List ClientTold
  pub fetched : List ClientTold
  pub plan : MayAskFirst f a.plan cs planned
  pub block : MayAskLane lane a.block planned fetched
  pub again : MayAskFirst f a.again fetched ds

-- ---- what its events say of that

-- the step gave the block of this number of this plan
abbrev pub Serves : LaneStep → ℕ → ℕ → Type 0
Serves (step.Served q j d) p k = (q ≡ p) × (j ≡ k)
Serves (step.Expired q j) p k = ⊥
Serves (step.Failed e) p k = ⊥

-- each event is of what was asked: a plan's of the query, a block's of the block, on this lane and by its answer
abbrev pub IsOf : ℕ → Asks → Event → Type 0
IsOf lane a (Planned plan query terms blocks) = a.plan ≡ Some query
IsOf lane a (Fetched l p k) = (l ≡ lane) × (x : Ask) × (s : LaneStep) × (a.block ≡ Some (x, s)) × Serves s p k
IsOf lane a (Expired l p k) = (l ≡ lane) × (x : Ask) × (a.block ≡ Some (x, step.Expired p k))
IsOf lane a (Refreshed p) = (q : FileRange) × (a.again ≡ Some q)
IsOf lane a _ = Unit {0}

-- what was asked has so many events: one of these where there is something
abbrev pub HasEvent : {A : Type 0} → Option A → ℕ → Type 0
HasEvent None n = n ≡ 0
HasEvent (Some x) n = n ≡ 1

-- each has its event
pub record IsRecorded (a : Asks) (new : List Event) : Type 0 where
  pub plan : HasEvent a.plan (count_by is_plan new)
  pub block : HasEvent a.block (count_by is_fetch new)
  pub again : HasEvent a.again (count_by is_refresh new)

-- ---- the cache

-- one look at most
pub record LooksOnce (looks : List Look) (k l : CacheTold) : Type 0 where
  pub looked : Added k.looked l.looked looks
  pub few : length looks ≤ 1
  pub offers : l.offers ≡ k.offers
  pub entries : l.entries ≡ k.entries
  pub faults : k.faults ≤ l.faults

-- one offer at most
pub record OffersOnce (k l : CacheTold) : Type 0 where
  pub puts : ℕ
  pub offers : GrewBy k.offers l.offers puts
  pub few : puts ≤ 1
  pub looked : l.looked ≡ k.looked
  pub faults : k.faults ≤ l.faults

-- a look, and then an offer; an event that the cache gave a block is of a look
pub record StepCache (new : List Event) (k l : CacheTold) : Type 0 where
  pub looks : List Look
  pub looked : CacheTold
  pub look : LooksOnce looks k looked
  pub offer : OffersOnce looked l
  pub cached : count_by is_cached new ≤ length looks
