-- How a run's history is tied to what the run's arguments tell before and after.
use Rattle.std.specs.Prelude.{ℕ, zero, suc, ◌≡◌, ◌⊎◌, ◌+◌, ◌-◌, ◌^◌, ◌<◌, ◌≤◌, ◌==◌, ◌&&◌, ◌≢◌, min, Bool, true, false}
use Rattle.std.specs.Prelude.{not, List, [], ◌∷◌, ◌++◌, drop, length, count_by, nat_eq, Option, Some}
use Rattle.std.specs.Prelude.{None, IfSome, IsSome, All, Contains}
use Rattle.std.specs.List.{flat_map}
use lib.Pointwise.{pointwise}
use Rattle.xet_base.specs.declared.cas_types.ChunkRange.{ChunkRange}
use Rattle.xet_base.specs.declared.cas_types.FileRange.{FileRange}
use Rattle.xet_base.specs.declared.merklehash.MerkleHash.{MerkleHash}
use Rattle.xet_base.specs.Hashes.{hash_eq}
use Rattle.xet_base.specs.Store.{Store, file_of}
use Rattle.xet_outside.specs.declared.block.BlockBytes.{BlockBytes}
use Rattle.xet_outside.specs.declared.served.Served.{Served}
use Rattle.xet_outside.specs.Answers.{late_in}
use Rattle.xet_outside.specs.Plan.{block_of}
use Rattle.xet_outside.specs.Told.{Added, CacheEntry, CacheTold, ClientTold, Query, SignalTold, SinkTold, Took}
use Rattle.xet_error.specs.declared.error.FileReconstructionError.{FileReconstructionError}
use Rattle.xet_error.specs.declared.error.FileReconstructionError.TheVariants as error
use Rattle.xet_offers.specs.Blocks.{range_eq}
use Rattle.xet_events.specs.declared.event.Event.{Event}
use Rattle.xet_events.specs.declared.event.PlannedBlock.{PlannedBlock}
use Rattle.xet_events.specs.Limits.{LimitTold}
use Rattle.xet_events.specs.Events.{Task, expires, first_error, is_stale, plan_count, planned, written}
use Rattle.xet_history.specs.Laws.{IsPrefix}
use Rattle.xet_history.specs.Queries.{CutFrom}
use Rattle.xet_history.specs.TrueHistory.{EndsEarly, IsTrueHistory, SomeEndsEarly, pieces, queries}
use Rattle.xet_ties.specs.Gains.{GainedServed, GrewBy}
use Rattle.xet_ties.specs.History.{EachAfter, IsNumberedNext, IsOnLane, IsOneCached, IsRenewed, IsWithin, asked_by}
use Rattle.xet_ties.specs.History.{block_at, cached_in, entry_of, expired_by, fetched_in, fetches, kept_in}
use Rattle.xet_ties.specs.History.{late_by, limits_of, range_at, served_by, telling, round_count}
use Rattle.xet_ties.specs.InCall.{EachExchange, Exchange, Look, Place, late_places}
use Rattle.xet_ties.specs.Saids.{EventPassed, FirstRenewed, FirstSaid, IsTested}
use Rattle.xet_ties.specs.Setup.{AllTell, CacheTells, ClientGoesOn, IsOver, RunTold, Setup, download_of, most_lanes}

-- where a run stands: none while it goes on and where it answered Ok, else the error that it answered
abbrev pub Stop : Type 0
Stop = Option FileReconstructionError

-- what was told since the start, and what of it no event says yet
pub record Slack : Type 0 where
  -- what each connection was asked, served and said, and the looks into the cache
  pub heard : List Exchange
  pub looks : List Look
  -- by lane, the entries that were served, and the places of the blocks whose requests were answered as expired
  pub hidden : List (List Served)
  pub late : List (List Place)
  -- the blocks of one range that the cache was asked for in vain, and that are to be fetched
  pub pending : List PlannedBlock
  -- how many fetched blocks of one range are to be offered to the cache
  pub due : ℕ
  -- how often the signal was asked for a plan that isn't planned yet, or a round that no event says yet
  pub spare : ℕ
  -- the query whose answer isn't recorded
  pub lost : List Query
  -- the bytes that were taken
  pub ahead : ℕ
  -- the first connections, so many, told no fault
  pub calm : ℕ

-- ---- connections

-- what one lane's connection tells: the entries of its Fetched events, then those that no event says yet
pub record IsLane (es : List Event) (lane : ℕ) (before after : ClientTold) (hidden : List Served)
    (late : List Place) : Type 0 where
  pub goes_on : ClientGoesOn before after
  pub served : Added before.served after.served (served_by lane es ++ hidden)
  -- its expired answers are at least its Expired events, unless their count stands at its last value
  pub expired : min (before.expiries + (expired_by lane es + length late)) (2 ^ 64 - 1) ≤ after.expiries

-- the first connections, so many, told no fault
abbrev pub FirstUnfailed : ℕ → List ClientTold → List ClientTold → Type 0
FirstUnfailed zero bs ns = Unit {0}
FirstUnfailed (suc i) [] ns = Unit {0}
FirstUnfailed (suc i) (b ∷ bs) [] = ⊥
FirstUnfailed (suc i) (b ∷ bs) (n ∷ ns) = (n.faults ≡ b.faults) × FirstUnfailed i bs ns

-- none of them did
abbrev pub EachUnfailed : List ClientTold → List ClientTold → Type 0
EachUnfailed bs ns = FirstUnfailed (length bs) bs ns

-- the same of each lane from a number on
abbrev pub EachLane : List Event → ℕ → List ClientTold → List ClientTold → List (List Served) → List (List Place)
    → Type 0
EachLane es lane [] [] [] [] = Unit {0}
EachLane es lane (b ∷ bs) (n ∷ ns) (h ∷ hs) (l ∷ ls) = IsLane es lane b n h l × EachLane es (lane + 1) bs ns hs ls
EachLane es lane bs ns hs ls = ⊥

-- the entry is of this block of this plan
abbrev pub is_pair : ℕ → ℕ → Served → Bool
is_pair p k e = e.plan == p && e.index == k

abbrev pub at_place : ℕ → ℕ → Place → Bool
at_place p k c = c.0 == p && c.1 == k

-- the entries of all lanes
abbrev pub all_of : List (List Served) → List Served
all_of hs = flat_map (λ h. h) hs

-- and the places of all
abbrev pub all_late : List (List Place) → List Place
all_late ls = flat_map (λ l. l) ls

-- the entry is that of a planned block
abbrev pub IsPlannedEntry : List Event → Served → Type 0
IsPlannedEntry es e = (x : PlannedBlock) × (block_at es e.plan e.index ≡ x ∷ []) × (e ≡ entry_of e.plan e.index x)

pub record IsServed (es : List Event) (hidden : List (List Served)) (late : List (List Place))
    (before after : List ClientTold) : Type 0 where
  pub lanes : EachLane es 0 before after hidden late
  -- no block of a plan was served twice
  pub once : (p k : ℕ) → count_by (fetches p k) es + count_by (is_pair p k) (all_of hidden) ≤ 1
  -- each hidden entry is of a planned block
  pub planned : All (IsPlannedEntry es) (all_of hidden)
  -- each event is of one of the lanes
  pub on_lanes : All (IsOnLane (length before)) es
  -- connections past the lanes are as before
  pub past : drop most_lanes after ≡ drop most_lanes before

-- of each lane from a number on: its connection answered as expired the requests for the blocks of the lane's Expired
-- events, then those that no event says yet, in this order
abbrev pub EachExpired : List Event → ℕ → List Exchange → List (List Place) → Type 0
EachExpired es lane [] [] = Unit {0}
EachExpired es lane (x ∷ xs) (l ∷ ls) = (late_places x.said ≡ late_by lane es ++ l) × EachExpired es (lane + 1) xs ls
EachExpired es lane xs ls = ⊥

-- each request that a connection answered as expired is for a planned block
abbrev pub LatePlanned : List Event → List Exchange → Type 0
LatePlanned es xs = All (λ x. All (IsPlannedEntry es) (late_in x.said)) xs

-- of each lane from a number on, whether or not its connection tells its list: it served the entries of its Fetched
-- events, then those that no event says yet
abbrev pub EachServed : List Event → ℕ → List Exchange → List (List Served) → Type 0
EachServed es lane [] [] = Unit {0}
EachServed es lane (x ∷ xs) (h ∷ hs) = (x.served ≡ served_by lane es ++ h) × EachServed es (lane + 1) xs hs
EachServed es lane xs hs = ⊥

-- what the first connection was asked: the queries of the Planned events and the actual ranges of the refreshed plans,
-- then those whose answer isn't recorded
pub record IsAsked (f : MerkleHash) (es : List Event) (lost : List Query) (before after : ClientTold) : Type 0 where
  pub asked : Added before.asked after.asked (asked_by f es ++ lost)

-- the others are asked nothing
abbrev pub EachUnasked : List ClientTold → List ClientTold → Type 0
EachUnasked [] [] = Unit {0}
EachUnasked (b ∷ bs) (n ∷ ns) = (n.asked ≡ b.asked) × EachUnasked bs ns
EachUnasked [] (n ∷ ns) = ⊥
EachUnasked (b ∷ bs) [] = ⊥

-- and what was heard of the first connection is that it was asked so
abbrev pub HeardAsked : MerkleHash → List Event → List Query → List Exchange → Type 0
HeardAsked f es lost [] = ⊥
HeardAsked f es lost (x ∷ xs) = x.asked ≡ asked_by f es ++ lost

-- both together
abbrev pub FirstAsked : MerkleHash → List Event → List Query → List ClientTold → List ClientTold → Type 0
FirstAsked f es lost (b ∷ bs) (n ∷ ns) = IsAsked f es lost b n × EachUnasked bs ns
FirstAsked f es lost [] ns = ⊥
FirstAsked f es lost (b ∷ bs) [] = ⊥

-- a query that ends where the range does, or has the least size at least
abbrev pub IsLong : Setup → FileRange → Type 0
IsLong g q = (q.end ≡ g.range.end) ⊎ (g.least ≤ q.end - q.start)

-- the queries cut the range from its start on, each shorter than the greatest and the least size together, and none but
-- one up to the range's end shorter than the least
pub record CutsRange (g : Setup) (qs : List FileRange) : Type 0 where
  pub from : CutFrom g.range.start g.range.end (g.greatest + g.least) qs
  pub long : All (IsLong g) qs

-- no plan comes after one that ended before its query does
abbrev pub EndsLast : List Event → Type 0
EndsLast [] = Unit {0}
EndsLast (e ∷ es) = (EndsEarly e → plan_count es ≡ 0) × EndsLast es

-- the first of these terms starts at this place
abbrev pub FirstStarts : ℕ → List Task → Type 0
FirstStarts place [] = Unit {0}
FirstStarts place (t ∷ ts) = t.term.byte_range.start ≡ place

-- the next query of the cut: the queries go on cutting the range, and no plan ended before its query does
pub record IsNextQuery (g : Setup) (es : List Event) (q : FileRange) : Type 0 where
  pub cuts : CutsRange g (queries es ++ q ∷ [])
  pub goes_on : SomeEndsEarly es → ⊥

-- a query that may be asked: the next one of the cut, or the actual range of a plan with an expired answer since it was
-- asked for last
abbrev pub MayBeAsked : Setup → List Event → FileRange → Type 0
MayBeAsked g es q = IsNextQuery g es q ⊎ ((p : ℕ) × (range_at es p ≡ q ∷ []) × (is_stale es p ≡ true))

-- at most one query's answer isn't recorded, and that query may be asked
abbrev pub IsLost : Setup → List Event → List Query → Type 0
IsLost g es [] = Unit {0}
IsLost g es (q ∷ []) = (q.0 ≡ g.file) × MayBeAsked g es q.1
IsLost g es (q ∷ r ∷ qs) = ⊥

-- ---- the cache

-- the look was for this key
abbrev pub is_look : MerkleHash → ChunkRange → Look → Bool
is_look x r l = hash_eq l.0 x && range_eq l.1 r

abbrev pub gives : Option BlockBytes → Bool
gives None = false
gives (Some e) = true

-- and gave an entry
abbrev pub gave : MerkleHash → ChunkRange → Look → Bool
gave x r l = is_look x r l && gives l.2

abbrev pub same_bytes : BlockBytes → BlockBytes → Bool
same_bytes a b = pointwise nat_eq a.offsets b.offsets && pointwise nat_eq a.bytes b.bytes

abbrev pub lacks : BlockBytes → Option BlockBytes → Bool
lacks b None = true
lacks b (Some e) = not (same_bytes e b)

-- the look was for this key and gave nothing, or another entry than the store's block
abbrev pub missed : Store → MerkleHash → ChunkRange → Look → Bool
missed s x r l = is_look x r l && lacks (block_of s x (r ∷ [])) l.2

abbrev pub is_range : ChunkRange → List ChunkRange → Bool
is_range r [] = false
is_range r (s ∷ []) = range_eq s r
is_range r (s ∷ q ∷ rs) = false

-- the block is this one range of this xorb
abbrev pub is_one : MerkleHash → ChunkRange → PlannedBlock → Bool
is_one x r b = hash_eq b.xorb x && is_range r b.ranges

-- the entry is of this one range of this xorb
abbrev pub is_served : MerkleHash → ChunkRange → Served → Bool
is_served x r e = hash_eq e.xorb x && is_range r e.ranges

-- the requests for blocks that connections answered as expired
abbrev pub lates_of : List Exchange → List Served
lates_of xs = flat_map (λ x. late_in x.said) xs

-- for each block of one range at least as many looks as Fetched and Cached events, blocks still to be fetched, and
-- other requests that were answered; as many that gave an entry as Cached events; over a store as many that didn't give
-- its block as Fetched events, such blocks and such requests
pub record LooksCover (es : List Event) (pending : List PlannedBlock) (asked : List Served) (clients : List ClientTold)
    (looks : List Look) (x : MerkleHash) (r : ChunkRange) : Type 0 where
  pub kept : (count_by (is_one x r) (telling kept_in [] es) + count_by (is_one x r) pending)
      + count_by (is_served x r) asked ≤ count_by (is_look x r) looks
  pub cached : count_by (is_one x r) (telling cached_in [] es) ≤ count_by (gave x r) looks
  pub honest : (s : Store) → IsOver s clients
      → (count_by (is_one x r) (telling fetched_in [] es) + count_by (is_one x r) pending)
      + count_by (is_served x r) asked ≤ count_by (missed s x r) looks

-- the entry that a look gave is among those of a cache that tells them
abbrev pub IsEntryOf : Option (List CacheEntry) → Look → Type 0
IsEntryOf entries l = IfSome l.2 (λ e. IfSome entries (λ es. Contains es (l.0, l.1, e)))

pub record IsLooked (es : List Event) (pending : List PlannedBlock) (asked : List Served) (looks : List Look)
    (clients : List ClientTold) (before after : CacheTold) : Type 0 where
  pub looked : Added before.looked after.looked looks
  pub cover : (x : MerkleHash) (r : ChunkRange) → LooksCover es pending asked clients looks x r

-- the block is one range of a xorb, as a test that computes
abbrev pub has_one : PlannedBlock → Bool
has_one b = nat_eq (length b.ranges) 1

-- a number that was told has grown by so much, or stands at its last value
abbrev pub Reaches : Option ℕ → Option ℕ → ℕ → Type 0
Reaches None after more = Unit {0}
Reaches (Some k) None more = ⊥
Reaches (Some k) (Some n) more = min (k + more) (2 ^ 64 - 1) ≤ n

-- so many entries were offered, as many as blocks of one range were fetched, but for those that are still to be
-- offered
pub record IsOffered (es : List Event) (due : ℕ) (before after : CacheTold) : Type 0 where
  pub puts : ℕ
  pub offers : GrewBy before.offers after.offers puts
  pub cover : count_by has_one (telling fetched_in [] es) ≡ puts + due
  pub faults : before.faults ≤ after.faults

-- ---- signal and limits

-- the signal was asked so often, once at least for each plan and for each round of fetches
pub record IsPolled (es : List Event) (spare : ℕ) (before after : SignalTold) : Type 0 where
  pub polls : ℕ
  pub asks : Reaches before.asks after.asks polls
  pub cover : plan_count es + round_count es + spare ≤ polls
  pub later : before.yes ≤ after.yes

-- the first ones stand, in order, among the others
abbrev pub IsAmong : List ℕ → List ℕ → Type 0
IsAmong [] ys = Unit {0}
IsAmong (x ∷ xs) [] = ⊥
IsAmong (x ∷ xs) (y ∷ ys) = ((x ≡ y) × IsAmong xs ys) ⊎ IsAmong (x ∷ xs) ys

abbrev pub AllAre : ℕ → List ℕ → Type 0
AllAre n [] = Unit {0}
AllAre n (x ∷ xs) = (x ≡ n) × AllAre n xs

abbrev pub AllWithin : ℕ → List ℕ → Type 0
AllWithin n [] = Unit {0}
AllWithin n (x ∷ xs) = (x ≤ n) × AllWithin n xs

-- the limits of the Admit events are, in order, among the answers of the source, are its one answer where that is told,
-- and don't pass its greatest one where that is
pub record IsLimited (es : List Event) (before after : LimitTold) : Type 0 where
  pub answers : List ℕ
  pub listed : Added before.limits after.limits answers
  pub among : IsAmong (limits_of es) answers
  pub fixed : IfSome before.fixed (λ k. AllAre k (limits_of es))
  pub same : after.fixed ≡ before.fixed
  pub within : IfSome before.most (λ k. AllWithin k (limits_of es))
  pub same_most : after.most ≡ before.most

-- ---- the writer

-- the writer took the written bytes, and those that no event says yet
pub record IsTaken (g : Setup) (es : List Event) (heard : List Exchange) (looks : List Look) (ahead : ℕ)
    (clients : List ClientTold) (cache : CacheTold) (before after : SinkTold) : Type 0 where
  pub taken : List ℕ
  pub took : Took before.took after.took taken
  pub counted : written es + ahead ≡ length taken
  -- over a valid store and a cache that tells it they are those of the pieces
  pub pieces : (s : Store) → IsOver s clients → CacheTells s cache → IsPrefix taken (pieces s es)
  -- whether or not a store is told, they are tested bytes
  pub tested : IsTested g heard looks es taken
  pub faults : before.faults ≤ after.faults
  pub link : after.link ≡ before.link

-- ---- errors

-- a recorded error is the answer, and the answer is recorded but for want of memory
pub record IsRecorded (es : List Event) (stop : Stop) : Type 0 where
  pub answered : (e : FileReconstructionError) → first_error es ≡ Some e → stop ≡ Some e
  pub recorded : (e : FileReconstructionError) → stop ≡ Some e → (e ≡ error.OutOfMemory) ⊎ (first_error es ≡ Some e)

-- no block expired more often than tries, by its events and the answers that no event says yet; and one is recorded so
-- often where the run stopped for that
pub record IsTried (tries : ℕ) (es : List Event) (late : List (List Place)) (stop : Stop) : Type 0 where
  pub at_most : (p k : ℕ) → count_by (expires p k) es + count_by (at_place p k) (all_late late) ≤ tries
  pub spent : stop ≡ Some error.UrlExpired → (p : ℕ) × (k : ℕ) × (count_by (expires p k) es ≡ tries)

-- ---- all of them

pub record Ties (g : Setup) (before after : RunTold) (es : List Event) (stop : Stop) (slack : Slack) : Type 0 where
  -- what each connection was asked, served and said
  pub heard : EachExchange before.clients after.clients slack.heard
  -- over connections that tell one valid store the history is true of it
  pub true_of : (s : Store) → IsOver s before.clients → IsTrueHistory s (download_of g) es
  -- whatever they tell, the queries cut the range, and a plan's terms end within its query
  pub cuts : CutsRange g (queries es)
  pub within : All IsWithin es
  -- and by none before the last one the file ends before its query does
  pub ends : EndsLast es
  -- the first planned term starts where the range does
  pub starts : FirstStarts g.range.start (planned es)
  -- and the plans are numbered in their order, from 1
  pub numbers : EachAfter IsNumberedNext [] es
  -- over connections that tell a store, valid or not, a plan is of a stored file
  pub stored : (s : Store) → AllTell s before.clients → 0 < plan_count es → IsSome (file_of s g.file)
  pub served : IsServed es slack.hidden slack.late before.clients after.clients
  -- of the first connections, so many as the slack says, no call failed
  pub unfailed : FirstUnfailed slack.calm before.clients after.clients
  pub expired : EachExpired es 0 slack.heard slack.late
  pub late_planned : LatePlanned es slack.heard
  pub heard_served : EachServed es 0 slack.heard slack.hidden
  pub asked : FirstAsked g.file es slack.lost before.clients after.clients
  pub heard_asked : HeardAsked g.file es slack.lost slack.heard
  pub lost : IsLost g es slack.lost
  pub said : FirstSaid g es slack.heard
  pub tried : IsTried g.tries es slack.late stop
  pub renewed : EachAfter IsRenewed [] es
  -- each recorded query that doesn't cut the range has an answer that isn't refused by the plan which it asks again
  pub refreshes : FirstRenewed g slack.lost slack.heard
  -- each fetched block was answered with bytes that pass its tests
  pub passed : All (EventPassed g slack.heard) es
  pub one_cached : EachAfter IsOneCached [] es
  -- the entries that no event says, and the requests that were answered as expired, have looks too
  pub looked : IsLooked es slack.pending (all_of slack.hidden ++ lates_of slack.heard) slack.looks before.clients
      before.cache after.cache
  pub looked_entries : All (IsEntryOf after.cache.entries) slack.looks
  pub offered : IsOffered es slack.due before.cache after.cache
  -- whatever store is told or not, a cache gained entries of blocks that were served in this call, and lost none
  pub gained : GainedServed g slack.heard before.cache after.cache
  pub polled : IsPolled es slack.spare before.signal after.signal
  pub limited : IsLimited es before.limits after.limits
  pub taken : IsTaken g es slack.heard slack.looks slack.ahead before.clients before.cache before.sink after.sink
  pub recorded : IsRecorded es stop

-- ---- what a run may leave

-- the error isn't want of memory
abbrev pub IsOther : Stop → Type 0
IsOther stop = stop ≢ Some error.OutOfMemory

-- the events say all
pub record LeavesNothing (slack : Slack) : Type 0 where
  pub hidden : all_of slack.hidden ≡ []
  pub due : slack.due ≡ 0
  pub lost : slack.lost ≡ []
  pub ahead : slack.ahead ≡ 0

-- no request was answered as expired that no event says
abbrev pub NoneLate : List (List Place) → Type 0
NoneLate [] = Unit {0}
NoneLate (l ∷ ls) = (l ≡ []) × NoneLate ls

-- Ok, and the errors with which no connection failed: not want of memory, a connection's or the writer's, and no failed
-- test
abbrev pub IsFaultless : Stop → Type 0
IsFaultless (Some error.OutOfMemory) = ⊥
IsFaultless (Some error.ClientError) = ⊥
IsFaultless (Some error.IoError) = ⊥
IsFaultless (Some (error.CorruptedReconstruction k)) = ⊥
IsFaultless stop = Unit {0}

-- no connection told a fault, and an event says each block that was served
pub record IsQuiet (clients : List ClientTold) (slack : Slack) : Type 0 where
  pub calm : slack.calm ≡ length clients
  pub hidden : all_of slack.hidden ≡ []

-- what a run may leave that no event says
pub record MayLeave (stop : Stop) (clients : List ClientTold) (slack : Slack) : Type 0 where
  -- nothing on Ok
  pub none : stop ≡ None → LeavesNothing slack
  -- over one valid store a served block for want of memory alone
  pub honest : (s : Store) → IsOver s clients → IsOther stop → all_of slack.hidden ≡ []
  -- an expired answer for want of memory alone
  pub late : IsOther stop → NoneLate slack.late
  -- bytes that were taken for want of memory and after the writer's failure alone
  pub counted : IsOther stop → stop ≢ Some error.IoError → slack.ahead ≡ 0
  -- a fault of a connection, and a served block that no event says, with errors that aren't faultless alone
  pub quiet : IsFaultless stop → IsQuiet clients slack
