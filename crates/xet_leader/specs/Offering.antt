-- What offering the blocks that lanes served does to the cache and to a run.
use Rattle.std.specs.Prelude.{ℕ, ◌≡◌, ◌<◌, true, List, [], ◌∷◌, take, map, count_by, Option, Some, None, slice_get}
use Rattle.std.specs.Prelude.{Ok, Err, OnOk, IfErr}
use Rattle.std.specs.Option.{is_some}
use Rattle.xet_outside.specs.Told.{CacheTold}
use Rattle.xet_error.specs.declared.error.FileReconstructionError.{FileReconstructionError}
use Rattle.xet_offers.specs.declared.reconstruction_terms.xorb_block.XorbBlock.{XorbBlock}
use Rattle.xet_events.specs.declared.event.Event.{Event}
use Rattle.xet_parts.specs.Offers.{OfferBlockCall}
use Rattle.xet_ties.specs.History.{fetches}
use Rattle.xet_ties.specs.Setup.{Setup}
use Rattle.xet_ties.specs.Ties.{has_one}
use Rattle.xet_ties.specs.Rounds.{blocks_at}
use Rattle.xet_leader.specs.declared.leader.LedPlan.{LedPlan}
use Rattle.xet_leader.specs.declared.missing_blocks.BlockAt.{BlockAt}
use Rattle.xet_leader.specs.Led.{Led}
use Rattle.xet_leader.specs.Plans.{Answer, block_in}
use Rattle.xet_leader.specs.Steady.{LeadPart, Loose, Moment}

-- what the block keeps was offered once; where there is none, nothing was
abbrev pub OfferedBlock : Option XorbBlock → CacheTold → CacheTold → Answer → Type 0
OfferedBlock None c d answer = (d ≡ c) × (answer ≡ Ok tt)
OfferedBlock (Some x) c d answer = OfferBlockCall x c d answer

-- so of the block at this place
abbrev pub OfferedOne : List LedPlan → BlockAt → CacheTold → CacheTold → Answer → Type 0
OfferedOne ls a c d answer = OfferedBlock (block_in ls a.plan a.block) c d answer

-- so of the blocks at these places, in order
abbrev pub OfferedEach : List LedPlan → List BlockAt → CacheTold → CacheTold → Type 0
OfferedEach ls [] c d = d ≡ c
OfferedEach ls (a ∷ ps) c d = (m : CacheTold) × OfferedOne ls a c m (Ok tt) × OfferedEach ls ps m d

-- some of the first of them were, and the next one failed with this error
pub record OfferFails (ls : List LedPlan) (places : List BlockAt) (c d : CacheTold)
    (e : FileReconstructionError) : Type 0 where
  pub count : ℕ
  pub last : CacheTold
  pub before : OfferedEach ls (take count places) c last
  pub place : BlockAt
  pub next : slice_get places count ≡ Some place
  pub fails : OfferedOne ls place last d (Err e)

-- one call of `offer_served`
pub record OfferCalls (ls : List LedPlan) (places : List BlockAt) (c d : CacheTold) (answer : Answer) : Type 0 where
  pub ok : OnOk answer (OfferedEach ls places c d)
  pub err : IfErr answer (OfferFails ls places c d)

-- there is a block, and it keeps data
abbrev pub IsServed : Option XorbBlock → Type 0
IsServed None = ⊥
IsServed (Some x) = is_some x.kept ≡ true

-- so at each of these places, by a fetch that the history has
abbrev pub AreServed : List Event → List LedPlan → List BlockAt → Type 0
AreServed es ls [] = Unit {0}
AreServed es ls (a ∷ ps) = IsServed (block_in ls a.plan a.block) × (0 < count_by (fetches a.plan a.block) es)
    × AreServed es ls ps

-- how many of the blocks at these places have one range
abbrev pub due_of : List Event → List BlockAt → ℕ
due_of es places = count_by has_one (blocks_at es (map (λ a. (a.plan, a.block)) places))

-- over the moment of a run whose cache tells this, where these blocks are due, were fetched and keep data: none is due
-- after it, or the run is to stop
abbrev pub OfferLeads : List BlockAt → CacheTold → CacheTold → Led → Answer → Type 0
OfferLeads places c d l answer = (g : Setup) (m : Moment) (o : Loose) → m.told.cache ≡ c
    → AreServed m.events l.plans places
    → LeadPart g m (record { told = record m.told { cache = d }; events = m.events })
    (record o { due = due_of m.events places }) (record o { due = 0 }) l l answer
