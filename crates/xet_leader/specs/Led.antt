-- What contracts see of a leader, and how it stands to a run's history and to what its arguments tell.
use Rattle.std.specs.Prelude.{ℕ, ◌≡◌, ◌⊎◌, ◌+◌, ◌^◌, ◌<◌, ◌≤◌, ◌==◌, true, false, List, [], ◌∷◌, length, map, take}
use Rattle.std.specs.Prelude.{drop, count_by, All, Contains, Some, None, IfSome}
use Rattle.std.specs.Option.{is_some}
use Rattle.std.specs.List.{sum_by}
use Rattle.xet_base.specs.declared.cas_types.FileRange.{FileRange}
use Rattle.xet_base.specs.Lists.{first_some}
use Rattle.xet_base.specs.Store.{Store}
use Rattle.xet_outside.specs.declared.plan.Plan.{Plan}
use Rattle.xet_outside.specs.Plan.{block_of, plan_of, shape}
use Rattle.xet_offers.specs.declared.reconstruction_terms.xorb_block.XorbBlock.{XorbBlock}
use Rattle.xet_offers.specs.declared.reconstruction_terms.xorb_block.XorbBlockData.{XorbBlockData}
use Rattle.xet_offers.specs.BlockChecks.{block_data}
use Rattle.xet_offers.specs.PlanChecks.{covered}
use Rattle.xet_blocks.specs.TermBlocks.{xorb_blocks}
use Rattle.xet_blocks.specs.Terms.{terms_of}
use Rattle.xet_events.specs.declared.event.Event.{Event}
use Rattle.xet_events.specs.Allowed.{IsRunning}
use Rattle.xet_events.specs.Events.{expires, is_admit, is_kept, is_stale, plan_count, planned, planned_end, size}
use Rattle.xet_events.specs.Events.{tasks_of}
use Rattle.xet_events.specs.Events.{written}
use Rattle.xet_history.specs.TrueHistory.{SomeEndsEarly, planned_term, queries}
use Rattle.xet_terms.specs.Managers.{IsManager, Manager, scheduled_end}
use Rattle.xet_terms.specs.Queries.{end_from}
use Rattle.xet_ties.specs.History.{blocks_in, fetches, is_expired, range_at}
use Rattle.xet_ties.specs.InCall.{SomeOne}
use Rattle.xet_ties.specs.Saids.{IsLookedData, IsPlanAccepted, IsServedData, IsTestedData, planned_of}
use Rattle.xet_ties.specs.Setup.{CacheTells, IsOver, RunTold, Setup, setup_of}
use Rattle.xet_ties.specs.Ties.{Slack, IsLong}
use Rattle.xet_leader.specs.declared.leader.Job.{Job}
use Rattle.xet_leader.specs.declared.leader.LedPlan.{LedPlan}

-- a manager, the plans whose terms aren't all written, oldest first, how many terms are planned, admitted and wholly
-- written, and the number of the next fetch
pub record Led : Type 0 where
  pub manager : Manager
  pub plans : List LedPlan
  pub planned : ℕ
  pub admitted : ℕ
  pub finished : ℕ
  pub fetches : ℕ

-- what a job's run is for
abbrev pub setup_of_job : Job → Setup
setup_of_job j = setup_of j.file_hash j.byte_range j.config

-- ---- the manager

-- it cuts the run's range by the run's settings
pub record IsManagerOf (g : Setup) (m : Manager) : Type 0 where
  pub file : m.file ≡ g.file
  pub range : m.range ≡ g.range
  pub least : m.least ≡ g.least
  pub greatest : m.greatest ≡ g.greatest
  pub multirange : m.multirange ≡ g.multirange

-- each query that was asked is planned, in order, and no plan waits; where no plan ended early the planned terms end
-- where these queries do, and where one did all is asked. None but one up to the range's end is shorter than the least
pub record IsLedManager (g : Setup) (es : List Event) (m : Manager) : Type 0 where
  pub is_for : IsManagerOf g m
  pub kept : IsManager m
  pub queries_are : queries es ≡ take m.answered m.queries
  pub idle : m.asked ≡ m.answered
  pub none_waits : m.waiting ≡ []
  pub going : m.ended ≡ false → planned_end es g.range.start ≡ end_from g.range.start (take m.answered m.queries)
  pub early : m.ended ≡ true → SomeEndsEarly es
  pub over : m.ended ≡ true → m.answered ≡ length m.queries
  pub covered : m.ended ≡ true → m.known_end ≤ scheduled_end m
  pub goes_on : m.ended ≡ false → SomeEndsEarly es → ⊥
  pub long : All (IsLong g) m.queries

-- ---- a plan's blocks

-- the block as it was before it kept anything
abbrev pub bare : XorbBlock → XorbBlock
bare x = record x { kept = None }

-- the store's data of a block
abbrev pub true_data : Store → XorbBlock → XorbBlockData
true_data s x = block_data x.chunk_ranges (block_of s x.xorb_hash x.chunk_ranges)

-- what a block keeps is tested; over one valid store it is of the cache or the store's own, and over a cache that
-- tells the store its own
pub record IsLedData (b : RunTold) (sl : Slack) (p k : ℕ) (x : XorbBlock) : Type 0 where
  pub tested : IfSome x.kept (IsTestedData sl.heard sl.looks p k (bare x))
  pub sound : (s : Store) → IsOver s b.clients
      → IfSome x.kept (λ d. IsLookedData sl.looks (bare x) d ⊎ (d ≡ true_data s x))
  pub honest : (s : Store) → IsOver s b.clients → CacheTells s b.cache → IfSome x.kept (λ d. d ≡ true_data s x)

-- data of bytes that some connection said in answer to the own request of the block of this number of this plan
abbrev pub IsAnswerData : Slack → ℕ → ℕ → XorbBlock → XorbBlockData → Type 0
IsAnswerData sl p k b d = SomeOne (λ y. IsServedData y p k b d) sl.heard

-- the block of this number of this plan, whose URL had expired so often; where it was fetched it keeps such data
pub record IsLedBlock (b : RunTold) (es : List Event) (sl : Slack) (p k tries : ℕ) (x : XorbBlock) : Type 0 where
  pub tries_are : tries ≡ count_by (expires p k) es
  pub kept : is_some x.kept ≡ is_kept es p k
  pub data_is : IsLedData b sl p k x
  pub fetched : 0 < count_by (fetches p k) es → IfSome x.kept (IsAnswerData sl p k (bare x))

abbrev pub EachLedBlock : RunTold → List Event → Slack → ℕ → ℕ → List ℕ → List XorbBlock → Type 0
EachLedBlock b es sl p k [] [] = Unit {0}
EachLedBlock b es sl p k (t ∷ ts) (x ∷ xs) = IsLedBlock b es sl p k t x × EachLedBlock b es sl p (k + 1) ts xs
EachLedBlock b es sl p k [] (x ∷ xs) = ⊥
EachLedBlock b es sl p k (t ∷ ts) [] = ⊥

-- the URL of this block may expire once more, and unless its plan is stale it isn't expired
pub record IsReady (g : Setup) (es : List Event) (stale : List ℕ) (p k : ℕ) : Type 0 where
  pub left : count_by (expires p k) es < g.tries
  pub fresh : Contains stale p ⊎ (is_expired es p k ≡ false)

-- ---- plans

-- its URLs are of the bytes that the plan covers, under its number, one for each block
pub record IsLedTable (g : Setup) (l : LedPlan) (range : FileRange) : Type 0 where
  pub file : l.block.urls.file_hash ≡ g.file
  pub range_is : l.block.urls.byte_range ≡ range
  pub number : l.block.urls.acquisition_id.plan ≡ l.number
  pub each : length l.block.urls.retrieval_urls ≡ length l.block.blocks

-- how the history has it: its blocks, the bytes that it covers, and its terms among the planned ones
pub record IsRecordedPlan (es : List Event) (l : LedPlan) : Type 0 where
  pub blocks : first_some (map (blocks_in l.number) es) ≡ Some (map planned_of l.block.blocks)
  pub at_range : range_at es l.number ≡ l.block.urls.byte_range ∷ []
  pub tasks : take (length l.block.terms) (drop l.first (planned es))
      ≡ tasks_of l.number (map planned_term l.block.terms) (map planned_of l.block.blocks)

-- a plan that was said and passed its tests; some plans are stale
pub record IsLedPlan (g : Setup) (b : RunTold) (es : List Event) (sl : Slack) (stale : List ℕ)
    (l : LedPlan) : Type 0 where
  pub plan : Plan
  pub query : FileRange
  pub accepted : IsPlanAccepted g sl.heard plan query
  pub said_as : l.number ≡ accepted.said.number
  pub terms : l.block.terms ≡ terms_of (shape plan) query g.multirange
  pub blocks : map bare l.block.blocks ≡ xorb_blocks (shape plan) g.multirange
  pub true_plan : (s : Store) → IsOver s b.clients → shape plan ≡ plan_of s g.file query
  pub table : IsLedTable g l (covered (shape plan) query)
  pub recorded : IsRecordedPlan es l
  pub each : EachLedBlock b es sl l.number 0 l.tries.items l.block.blocks
  pub ready : (k : ℕ) → k < length l.block.blocks → IsReady g es stale l.number k

-- the numbers of plans, and their terms among the planned ones, follow one another
abbrev pub FollowOn : List LedPlan → Type 0
FollowOn [] = Unit {0}
FollowOn (l ∷ []) = Unit {0}
FollowOn (l ∷ k ∷ ls) =
    (k.number ≡ l.number + 1) × (k.first ≡ l.first + length l.block.terms) × FollowOn (k ∷ ls)

-- the last plan's number is this one
abbrev pub LastNumberIs : ℕ → List LedPlan → Type 0
LastNumberIs number [] = Unit {0}
LastNumberIs number (l ∷ []) = l.number ≡ number
LastNumberIs number (l ∷ k ∷ ls) = LastNumberIs number (k ∷ ls)

-- its terms are the last of so many
abbrev pub LastTermsAre : ℕ → List LedPlan → Type 0
LastTermsAre terms [] = Unit {0}
LastTermsAre terms (l ∷ []) = l.first + length l.block.terms ≡ terms
LastTermsAre terms (l ∷ k ∷ ls) = LastTermsAre terms (k ∷ ls)

-- the term of this number is one of the first plan's; without plans there are no terms from it on
abbrev pub BeginsWith : ℕ → ℕ → List LedPlan → Type 0
BeginsWith finished terms [] = finished ≡ terms
BeginsWith finished terms (l ∷ ls) = (l.first ≤ finished) × (finished < l.first + length l.block.terms)

-- the plans with terms that aren't written; a plan without terms, which is the last one that is asked, is none of
-- them
pub record AreLedPlans (g : Setup) (b : RunTold) (es : List Event) (sl : Slack) (stale : List ℕ)
    (l : Led) : Type 0 where
  pub each : All (IsLedPlan g b es sl stale) l.plans
  pub follow : FollowOn l.plans
  pub numbered : l.manager.ended ≡ false → LastNumberIs (plan_count es) l.plans
  pub last : LastTermsAre l.planned l.plans
  pub first : BeginsWith l.finished l.planned l.plans

-- ---- the leader

-- so many planned terms, admitted ones, and wholly written ones, and no byte more was written
pub record IsCounted (es : List Event) (l : Led) : Type 0 where
  pub planned_are : length (planned es) ≡ l.planned
  pub planned_fits : l.planned < 2 ^ 64
  pub admitted_are : l.admitted ≡ count_by is_admit es
  pub finished_within : l.finished ≤ l.admitted
  pub admitted_within : l.admitted ≤ l.planned
  pub written_are : written es ≡ sum_by size (take l.finished (planned es))

-- plans with a URL that expired since they were asked for last, each once
abbrev pub AreStale : List Event → List ℕ → Type 0
AreStale es [] = Unit {0}
AreStale es (p ∷ ps) = (is_stale es p ≡ true) × (count_by (λ q. q == p) ps ≡ 0) × AreStale es ps

pub record IsLed (g : Setup) (b : RunTold) (es : List Event) (sl : Slack) (stale : List ℕ) (l : Led) : Type 0 where
  pub running : IsRunning es
  pub some : g.range.start < g.range.end
  pub tries : 0 < g.tries
  pub stale_are : AreStale es stale
  -- each block, also of a plan that is written, expired fewer times than it may be asked for
  pub under : (p k : ℕ) → count_by (expires p k) es < g.tries
  pub manager : IsLedManager g es l.manager
  pub plans : AreLedPlans g b es sl stale l
  pub counted : IsCounted es l
