-- What looking for missing blocks does to a cache, a history and the plans of a leader.
use Rattle.std.specs.Prelude.{ℕ, ◌≡◌, ◌⊎◌, ◌<◌, Bool, length, cond, List, [], ◌∷◌, take, Some, Result, IfOk, IfErr}
use Rattle.std.specs.Prelude.{OnErr, slice_get, slice_set}
use Rattle.std.specs.List.{flat_map}
use Rattle.std.specs.Option.{is_some}
use Rattle.xet_outside.specs.Told.{CacheTold}
use Rattle.xet_error.specs.declared.error.FileReconstructionError.{FileReconstructionError}
use Rattle.xet_error.specs.declared.error.FileReconstructionError.TheVariants as error
use Rattle.xet_offers.specs.declared.reconstruction_terms.xorb_block.XorbBlock.{XorbBlock}
use Rattle.xet_events.specs.declared.event.Event.{Event}
use Rattle.xet_events.specs.declared.event.PlannedBlock.{PlannedBlock}
use Rattle.xet_events.specs.Allowed.{IsMissing, IsRunning}
use Rattle.xet_ties.specs.History.{block_at}
use Rattle.xet_ties.specs.Setup.{RunTold, Setup}
use Rattle.xet_ties.specs.Ties.{Slack}
use Rattle.xet_ties.specs.PartCalls.{LookedShort, LookedUp}
use Rattle.xet_leader.specs.declared.leader.LedPlan.{LedPlan}
use Rattle.xet_leader.specs.declared.missing_blocks.BlockAt.{BlockAt}
use Rattle.xet_leader.specs.ByNumber.{plan_index}
use Rattle.xet_leader.specs.FetchLists.{AreApart, Each, IsFetchList}
use Rattle.xet_leader.specs.KeptBlocks.{with_block}
use Rattle.xet_leader.specs.Lacking.{missing_of}
use Rattle.xet_leader.specs.Led.{IsLed, Led}
use Rattle.xet_leader.specs.Steady.{IsFailing, IsGoing, Loose, Moment, no_loose}

-- ---- before the looks

-- the leader of some run that has this history
pub record IsLedBy (es : List Event) (l : Led) : Type 0 where
  pub setup : Setup
  pub start : RunTold
  pub slack : Slack
  pub stale : List ℕ
  pub led : IsLed setup start es slack stale l

-- the plan of this place has the block, under its own number, and a URL for it
pub record CanRequest (ls : List LedPlan) (c : BlockAt) : Type 0 where
  pub plan : LedPlan
  pub at : slice_get ls (plan_index ls c.plan) ≡ Some plan
  pub block : XorbBlock
  pub of_plan : slice_get plan.block.blocks c.block ≡ Some block
  pub index : block.xorb_block_index ≡ c.block
  pub url : c.block < length plan.block.urls.retrieval_urls

-- and it is missing
pub record CanLook (es : List Event) (ls : List LedPlan) (c : BlockAt) : Type 0 where
  pub request : CanRequest ls c
  pub missing : IsMissing es c.plan c.block

-- so each of these, and no two are the same
pub record CanLookAll (es : List Event) (ls : List LedPlan) (cs : List BlockAt) : Type 0 where
  pub running : IsRunning es
  pub each : Each (CanLook es ls) cs
  pub apart : AreApart cs

-- ---- the looks

-- one look for a block: whether it is kept now
pub record LookedBlock (before after : CacheTold) (es fs : List Event) (x y : XorbBlock) (p : ℕ)
    (answer : Result Bool FileReconstructionError) : Type 0 where
  pub looked : IfOk answer (λ found. LookedUp x y p before after es fs × (found ≡ is_some y.kept))
  pub short : OnErr answer (LookedShort x before after es fs)
  pub memory : IfErr answer (λ e. e ≡ error.OutOfMemory)
  pub entries : after.entries ≡ before.entries

-- of a plan
pub record LookedIn (before after : CacheTold) (es fs : List Event) (l m : LedPlan) (c : BlockAt)
    (answer : Result Bool FileReconstructionError) : Type 0 where
  pub block : XorbBlock
  pub of_plan : slice_get l.block.blocks c.block ≡ Some block
  pub now : XorbBlock
  pub looked : LookedBlock before after es fs block now c.plan answer
  pub is : m ≡ with_block l c.block now

-- of one of some plans, by its number
pub record LookedPlace (before after : CacheTold) (es fs : List Event) (ls ms : List LedPlan) (c : BlockAt)
    (found : Bool) : Type 0 where
  pub plan : LedPlan
  pub at : slice_get ls (plan_index ls c.plan) ≡ Some plan
  pub block : XorbBlock
  pub of_plan : slice_get plan.block.blocks c.block ≡ Some block
  pub now : XorbBlock
  pub looked : LookedUp block now c.plan before after es fs
  pub entries : after.entries ≡ before.entries
  pub is : ms ≡ slice_set ls (plan_index ls c.plan) (with_block plan c.block now)
  pub answer : found ≡ is_some now.kept

-- one look for each of these; those that aren't kept then are left, in their order
abbrev pub LooksFrom : CacheTold → CacheTold → List Event → List Event → List LedPlan → List LedPlan → List BlockAt
    → List BlockAt → Type 0
LooksFrom before after es fs ls ms [] left = (after ≡ before) × (fs ≡ es) × (ms ≡ ls) × (left ≡ [])
LooksFrom before after es fs ls ms (c ∷ cs) left =
    (middle : CacheTold) × (gs : List Event) × (ks : List LedPlan) × (found : Bool) × (rest : List BlockAt)
    × LookedPlace before middle es gs ls ks c found × (left ≡ cond found rest (c ∷ rest))
    × LooksFrom middle after gs fs ks ms cs rest

-- memory was wanting: in a look for a block, or for nothing that is told
pub record ShortLook (before after : CacheTold) (es fs : List Event) : Type 0 where
  pub block : XorbBlock
  pub short : LookedShort block before after es fs
  pub entries : after.entries ≡ before.entries

abbrev pub EndsShort : CacheTold → CacheTold → List Event → List Event → Type 0
EndsShort before after es fs = ((after ≡ before) × (fs ≡ es)) ⊎ ShortLook before after es fs

-- after looks for the first of these
pub record LooksShort (before after : CacheTold) (es fs : List Event) (ls : List LedPlan)
    (cs : List BlockAt) : Type 0 where
  pub count : ℕ
  pub middle : CacheTold
  pub events : List Event
  pub plans : List LedPlan
  pub left : List BlockAt
  pub from : LooksFrom before middle es events ls plans (take count cs) left
  pub short : EndsShort middle after events fs

-- looks for these blocks
pub record LooksCall (before after : CacheTold) (es fs : List Event) (ls ms : List LedPlan) (cs : List BlockAt)
    (answer : Result (List BlockAt) FileReconstructionError) : Type 0 where
  pub ok : IfOk answer (LooksFrom before after es fs ls ms cs)
  pub err : OnErr answer (LooksShort before after es fs ls cs)
  pub memory : IfErr answer (λ e. e ≡ error.OutOfMemory)

-- ---- the leader

-- a look for each block that the leader's open terms lack; nothing else of it changes
pub record LookTurn (before after : CacheTold) (es fs : List Event) (l k : Led)
    (answer : Result (List BlockAt) FileReconstructionError) : Type 0 where
  pub looks : LooksCall before after es fs l.plans k.plans (missing_of l) answer
  pub led : k ≡ record l { plans = k.plans }

-- the planned blocks of these places
abbrev pub blocks_of : List Event → List BlockAt → List PlannedBlock
blocks_of es cs = flat_map (λ c. block_at es c.plan c.block) cs

-- they are to be fetched
abbrev pub to_fetch : List Event → List BlockAt → Loose
to_fetch es cs = record no_loose { pending = blocks_of es cs }

-- the signal is asked once where there are blocks to fetch
abbrev pub polls_for : List BlockAt → ℕ
polls_for [] = 0
polls_for (c ∷ cs) = 1

-- they are to be fetched, and the signal was asked for that
abbrev pub to_round : List Event → List BlockAt → Loose
to_round es cs = record (to_fetch es cs) { polls = polls_for cs }

-- over any start, a run that goes on goes on after the looks, and is to fetch those blocks that are left; or it is to
-- stop with want of memory
pub record LooksLead (g : Setup) (m n : Moment) (l k : Led)
    (answer : Result (List BlockAt) FileReconstructionError) : Type 0 where
  pub ok : (b : RunTold) → IsGoing g b m no_loose l → IfOk answer
      (λ left. IsGoing g b n (to_fetch n.events left) k × IsFetchList n.events k.finished left)
  pub err : (b : RunTold) → IsGoing g b m no_loose l → IfErr answer (IsFailing g b n)

-- so over the moment of a run of which these are the looks and events
abbrev pub LookLeads : CacheTold → CacheTold → List Event → List Event → Led → Led
    → Result (List BlockAt) FileReconstructionError → Type 0
LookLeads before after es fs l k answer = (g : Setup) (m : Moment) → m.told.cache ≡ before → m.events ≡ es
    → LooksLead g m (record { told = record m.told { cache = after }; events = fs }) l k answer
