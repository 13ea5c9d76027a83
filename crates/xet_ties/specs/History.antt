-- What a history says, each event read after those before it.
use Rattle.std.specs.Prelude.{ℕ, ◌≡◌, ◌+◌, ◌<◌, ◌≤◌, ◌==◌, ◌&&◌, Bool, true, false, not, cond, List, [], ◌∷◌, ◌++◌, map}
use Rattle.std.specs.Prelude.{length, count_by, Option, Some, None, option_to_list, slice_get}
use Rattle.std.specs.List.{flat_map}
use Rattle.xet_base.specs.declared.cas_types.FileRange.{FileRange}
use Rattle.xet_base.specs.declared.merklehash.MerkleHash.{MerkleHash}
use Rattle.xet_base.specs.Lists.{first_some}
use Rattle.xet_outside.specs.declared.served.Served.{Served}
use Rattle.xet_outside.specs.Told.{Query}
use Rattle.xet_events.specs.declared.event.Event.{Event}
use Rattle.xet_events.specs.declared.event.Event.TheVariants.{Planned, Admit, Fetched, Cached, Expired, Refreshed}
use Rattle.xet_events.specs.declared.event.PlannedBlock.{PlannedBlock}
use Rattle.xet_events.specs.declared.event.PlannedTerm.{PlannedTerm}
use Rattle.xet_events.specs.Events.{last_of, plan_count}

-- what the events say, each read after those before it
abbrev pub telling : {A : Type 0} → (List Event → Event → List A) → List Event → List Event → List A
telling says before [] = []
telling says before (e ∷ es) = says before e ++ telling says (before ++ e ∷ []) es

-- each of the events is as wanted after those before it
abbrev pub EachAfter : (List Event → Event → Type 0) → List Event → List Event → Type 0
EachAfter P before [] = Unit {0}
EachAfter P before (e ∷ es) = P before e × EachAfter P (before ++ e ∷ []) es

-- ---- blocks

-- the blocks of a plan, of its own Planned event
abbrev pub blocks_in : ℕ → Event → Option (List PlannedBlock)
blocks_in p (Planned plan query terms blocks) = cond (plan == p) (Some blocks) None
blocks_in p _ = None

-- the block of a plan by its number, of a plan that was planned, as a list of one
abbrev pub block_at : List Event → ℕ → ℕ → List PlannedBlock
block_at es p k = flat_map (λ bs. option_to_list (slice_get bs k)) (option_to_list (first_some (map (blocks_in p) es)))

-- the entry that a connection's list of served blocks has for it
abbrev pub entry_of : ℕ → ℕ → PlannedBlock → Served
entry_of p k x = record { plan = p; index = k; xorb = x.xorb; ranges = x.ranges }

-- the entry that a lane's Fetched event says
abbrev pub served_in : ℕ → List Event → Event → List Served
served_in lane before (Fetched l p k) = cond (l == lane) (map (entry_of p k) (block_at before p k)) []
served_in lane before _ = []

-- the entries of the Fetched events of a lane
abbrev pub served_by : ℕ → List Event → List Served
served_by lane es = telling (served_in lane) [] es

-- the event is an Expired event of the lane
abbrev pub expires_on : ℕ → Event → Bool
expires_on lane (Expired l p k) = l == lane
expires_on lane _ = false

-- the Expired events of a lane
abbrev pub expired_by : ℕ → List Event → ℕ
expired_by lane es = count_by (expires_on lane) es

-- the place of the block of a lane's Expired event
abbrev pub late_on : ℕ → Event → List (ℕ × ℕ)
late_on lane (Expired l p k) = cond (l == lane) ((p, k) ∷ []) []
late_on lane _ = []

-- those of all its Expired events, in order
abbrev pub late_by : ℕ → List Event → List (ℕ × ℕ)
late_by lane es = flat_map (late_on lane) es

-- the event is a Fetched event of this block of this plan
abbrev pub fetches : ℕ → ℕ → Event → Bool
fetches p k (Fetched lane plan block) = plan == p && block == k
fetches p k _ = false

-- an event of a lane names one of so many
abbrev pub IsOnLane : ℕ → Event → Type 0
IsOnLane lanes (Fetched lane p k) = lane < lanes
IsOnLane lanes (Expired lane p k) = lane < lanes
IsOnLane lanes _ = Unit {0}

-- the blocks that were fetched, those that the cache gave, and both
abbrev pub fetched_in : List Event → Event → List PlannedBlock
fetched_in before (Fetched l p k) = block_at before p k
fetched_in before _ = []

abbrev pub cached_in : List Event → Event → List PlannedBlock
cached_in before (Cached p k) = block_at before p k
cached_in before _ = []

abbrev pub kept_in : List Event → Event → List PlannedBlock
kept_in before e = fetched_in before e ++ cached_in before e

-- the block is one range of a xorb
abbrev pub HasOne : PlannedBlock → Type 0
HasOne b = length b.ranges ≡ 1

-- ---- rounds

-- the event says what became of a fetch
abbrev pub is_fetch : Event → Bool
is_fetch (Fetched lane p k) = true
is_fetch (Expired lane p k) = true
is_fetch _ = false

-- so does the last of these events
abbrev pub ends_in_round : List Event → Bool
ends_in_round es = last_of false (map is_fetch es)

-- the event is the first of a round: it says what became of a fetch, and the one before it doesn't
abbrev pub round_in : List Event → Event → List Event
round_in before e = cond (is_fetch e && not (ends_in_round before)) (e ∷ []) []

-- so many rounds show in the events
abbrev pub round_count : List Event → ℕ
round_count es = length (telling round_in [] es)

-- ---- expired answers

-- the event is an Expired event, and a Refreshed event
abbrev pub is_expiry : Event → Bool
is_expiry (Expired lane p k) = true
is_expiry _ = false

abbrev pub is_refresh : Event → Bool
is_refresh (Refreshed p) = true
is_refresh _ = false

-- for an Expired event of the block yes, for a Refreshed event of its plan no
abbrev pub expiry_of : ℕ → ℕ → Event → List Bool
expiry_of p k (Expired lane plan block) = cond (plan == p && block == k) (true ∷ []) []
expiry_of p k (Refreshed plan) = cond (plan == p) (false ∷ []) []
expiry_of p k _ = []

-- the block has an Expired event since its plan's last Refreshed event
abbrev pub is_expired : List Event → ℕ → ℕ → Bool
is_expired es p k = last_of false (flat_map (expiry_of p k) es)

-- no Fetched or Expired event of a block follows an Expired one without a Refreshed event of its plan between
abbrev pub IsRenewed : List Event → Event → Type 0
IsRenewed before (Fetched lane p k) = is_expired before p k ≡ false
IsRenewed before (Expired lane p k) = is_expired before p k ≡ false
IsRenewed before _ = Unit {0}

-- a block of several ranges isn't cached
abbrev pub IsOneCached : List Event → Event → Type 0
IsOneCached before (Cached p k) = (b : PlannedBlock) × (block_at before p k ≡ b ∷ []) × HasOne b
IsOneCached before _ = Unit {0}

-- ---- queries and limits

-- the bytes of the file that a plan covers: from its query's start to the end of its last term
abbrev pub actual_range : FileRange → List PlannedTerm → FileRange
actual_range q ts = record { start = q.start; end = last_of q.start (map (λ t. t.byte_range.end) ts) }

-- so of the plan of this number
abbrev pub range_in : ℕ → Event → Option FileRange
range_in p (Planned plan query terms blocks) = cond (plan == p) (Some (actual_range query terms)) None
range_in p _ = None

-- as a list of one, of a plan that was planned
abbrev pub range_at : List Event → ℕ → List FileRange
range_at es p = option_to_list (first_some (map (range_in p) es))

-- a plan's number is that of the plan before it plus one
abbrev pub IsNumberedNext : List Event → Event → Type 0
IsNumberedNext before (Planned plan query terms blocks) = plan ≡ plan_count before + 1
IsNumberedNext before _ = Unit {0}

-- a plan's terms end within its query
abbrev pub IsWithin : Event → Type 0
IsWithin (Planned plan query terms blocks) = (actual_range query terms).end ≤ query.end
IsWithin _ = Unit {0}

-- the query of a plan, and the actual range of the plan that is refreshed
abbrev pub asked_in : MerkleHash → List Event → Event → List Query
asked_in f before (Planned plan query terms blocks) = (f, query) ∷ []
asked_in f before (Refreshed plan) = map (λ r. (f, r)) (range_at before plan)
asked_in f before _ = []

-- the queries that the events say
abbrev pub asked_by : MerkleHash → List Event → List Query
asked_by f es = telling (asked_in f) [] es

-- the limit of an Admit event
abbrev pub limit_in : Event → List ℕ
limit_in (Admit limit) = limit ∷ []
limit_in _ = []

-- the limits of the Admit events
abbrev pub limits_of : List Event → List ℕ
limits_of es = flat_map limit_in es
