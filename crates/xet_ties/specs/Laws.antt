-- Laws of ties and of runs.
use Rattle.std.specs.Prelude.{ℕ, ◌≡◌, IsNone, ◌+◌, ◌<◌, ◌≤◌, false, true, List, [], ◌∷◌, ◌++◌, length, map, take}
use Rattle.std.specs.Prelude.{count_by, All, Some, None, Option, Result, Ok, Err, slice_get, drop, filter}
use Rattle.std.specs.List.{AllZip, concat, list_any, sum_by}
use Rattle.xet_base.specs.declared.cas_types.ChunkRange.{ChunkRange}
use Rattle.xet_base.specs.declared.cas_types.FileRange.{FileRange}
use Rattle.xet_base.specs.declared.merklehash.MerkleHash.{MerkleHash}
use Rattle.xet_base.specs.declared.unique_id.UniqueId.{UniqueId}
use Rattle.xet_base.specs.Store.{Store, file_of}
use Rattle.xet_outside.specs.Answers.{bytes_in}
use Rattle.xet_outside.specs.Plan.{block_of}
use Rattle.xet_outside.specs.Told.{AskCall, BlockCall, CacheTold, ClientTold, Rose, SignalTold, SinkTold, Took}
use Rattle.xet_outside.specs.declared.block.BlockAnswer.{BlockAnswer}
use Rattle.xet_outside.specs.declared.client.ClientError.{ClientError}
use Rattle.xet_outside.specs.declared.plan.Plan.{Plan}
use Rattle.xet_outside.specs.declared.plan.PlanAnswer.{PlanAnswer}
use Rattle.xet_outside.specs.declared.plan.PlanAnswer.TheVariants.{NoFile}
use Rattle.xet_outside.specs.declared.said.Said.{Said}
use Rattle.xet_outside.specs.declared.served.Served.{Served}
use Rattle.xet_error.specs.declared.error.Corruption.{Corruption}
use Rattle.xet_error.specs.declared.error.FileReconstructionError.{FileReconstructionError}
use Rattle.xet_error.specs.declared.error.FileReconstructionError.TheVariants as error
use Rattle.xet_blocks.specs.declared.reconstruction_terms.file_term.TermBlock.{TermBlock}
use Rattle.xet_offers.specs.declared.reconstruction_terms.retrieval_urls.RetrievalUrl.{RetrievalUrl}
use Rattle.xet_offers.specs.declared.reconstruction_terms.xorb_block.XorbBlock.{XorbBlock}
use Rattle.xet_offers.specs.declared.reconstruction_terms.xorb_block.XorbBlockData.{XorbBlockData}
use Rattle.xet_blocks.specs.ServedChunks.{AllServed}
use Rattle.xet_blocks.specs.TermBlockCalls.{FromSaid, TermBlockCall}
use Rattle.xet_fetch.specs.CachedBlocks.{IsOffered, entry_of, passes_cached}
use Rattle.xet_fetch.specs.Refreshes.{Answered, IsRefreshed, MayAsk, Refresh}
use Rattle.xet_events.specs.declared.event.Event.{Event}
use Rattle.xet_events.specs.declared.event.Event.TheVariants.{Admit, Cached, Expired, Fetched, Refreshed}
use Rattle.xet_events.specs.Allowed.{AllowedAfter, IsAllowedHistory, IsRunning}
use Rattle.xet_events.specs.Limits.{LimitCall, LimitTold}
use Rattle.xet_events.specs.Events.{Task, expires, is_admit, is_kept, is_stale, needs, planned, size, unfinished}
use Rattle.xet_history.specs.Laws.{IsPrefix}
use Rattle.xet_history.specs.TrueHistory.{pieces}
use Rattle.xet_ties.specs.Causes.{BlockFailsIn, HaveExpired, IsCorrupted, IsMissingFile, SomeFailed, refused_setting}
use Rattle.xet_ties.specs.History.{block_at, fetches, is_expiry, is_refresh, range_at}
use Rattle.xet_ties.specs.InCall.{EachGrew, Exchange, Look, served_of_all}
use Rattle.xet_ties.specs.Lanes.{AnswerStep, Ask, BytesFail, DrewApart, IsFor, IsOf, LaneDid, StepDid}
use Rattle.xet_ties.specs.Legal.{Legal}
use Rattle.xet_ties.specs.LegalWords.{AllPlanned, FirstAsks, IsExact, ServedOnce, TookTested}
use Rattle.xet_ties.specs.RunCalls.{IsFinished, RunCall, TookAll}
use Rattle.xet_ties.specs.Saids.{BlockOfPlan, InStep, IsCutAnswer, IsPlanAccepted, IsQueryAnswer, IsServedData}
use Rattle.xet_ties.specs.Saids.{IsTested, planned_of, IsTaskPiece, has_bytes}
use Rattle.xet_ties.specs.Setup.{AllTell, CacheTells, IsOver, RunTold, Setup}
use Rattle.xet_ties.specs.declared.lane_step.LaneStep.{LaneStep}
use Rattle.xet_ties.specs.declared.lane_step.LaneStep.TheVariants as step
use Rattle.xet_ties.specs.Measures.{left}
use Rattle.xet_ties.specs.Moves.{no_hidden, no_late, no_slack}
use Rattle.xet_ties.specs.PartCalls.{AdmitsCall, LookedShort, LookedUp, OfferOneCall, looks_after, pending_after}
use Rattle.xet_ties.specs.PartCalls.{plan_event, plan_query, plan_refresh, stop_event, total, AskedSaid, AskedShort}
use Rattle.xet_ties.specs.Rounds.{AfterRound, IsMissingAsk, IsPlanAsk}
use Rattle.xet_ties.specs.Recordings.{Apart, AreMissing, AreUnkept, EachMayExpire, HasTry, IsFreshAsk, HaveTries}
use Rattle.xet_ties.specs.Recordings.{Place, Spot, asks_for, blocks_all, expired_at, expired_on, fetched_at}
use Rattle.xet_ties.specs.Recordings.{fetched_on, key_of, lane_events, lane_spots, places_of, wrote_of}
use Rattle.xet_ties.specs.Windows.{AreKept, IsAt, is_wanted, open_terms}
use Rattle.xet_ties.specs.Ties.{IsNextQuery, IsQuiet, Slack, Stop, Ties, is_one, is_pair}

-- ---- runs

-- before a run all is tied
abbrev pub StartsTied : Type 0
StartsTied = (g : Setup) (before : RunTold) → refused_setting g before.clients ≡ None
    → Ties g before before [] None (no_slack before.clients)

-- a run whose history is allowed and that is tied, or refused by its settings, gives a legal answer
abbrev pub RunsAreLegal : Type 0
RunsAreLegal = (g : Setup) (before after : RunTold) (es : List Event) (answer : Result ℕ FileReconstructionError)
    → IsAllowedHistory es → RunCall g before after es answer → Legal g before after answer

-- however a tied run ended and whatever store is told or not: no block of a plan was served twice, in all lists
-- together
abbrev pub TiesServeOnce : Type 0
TiesServeOnce = (g : Setup) (before after : RunTold) (es : List Event) (stop : Stop) (slack : Slack)
    → Ties g before after es stop slack → ServedOnce (served_of_all slack.heard)

-- each served block is one of a plan that was said and passes its tests
abbrev pub TiesServePlanned : Type 0
TiesServePlanned = (g : Setup) (before after : RunTold) (es : List Event) (stop : Stop) (slack : Slack)
    → Ties g before after es stop slack → AllPlanned g slack.heard

-- the queries of the first connection are short, and but for refreshes they cut the range; the others were asked none
abbrev pub TiesAskCut : Type 0
TiesAskCut = (g : Setup) (before after : RunTold) (es : List Event) (stop : Stop) (slack : Slack)
    → Ties g before after es stop slack → FirstAsks g before.clients after.clients

-- the writer took tested bytes alone
abbrev pub TiesTakeTested : Type 0
TiesTakeTested = (g : Setup) (before after : RunTold) (es : List Event) (stop : Stop) (slack : Slack)
    → IsAllowedHistory es → Ties g before after es stop slack
    → TookTested g slack.heard slack.looks before.sink after.sink

-- over one valid store and a cache that tells it, a tied run that is finished took exactly the window
abbrev pub FinishedIsExact : Type 0
FinishedIsExact = (g : Setup) (before after : RunTold) (es : List Event) (k : ℕ) (slack : Slack)
    → IsAllowedHistory es → Ties g before after es None slack → slack.ahead ≡ 0 → IsFinished g es k
    → (s : Store) → IsOver s before.clients → CacheTells s before.cache → IsExact s g before.sink after.sink k

-- whatever store is told or not, it took the tested pieces of all planned terms that have bytes
abbrev pub FinishedIsWhole : Type 0
FinishedIsWhole = (g : Setup) (before after : RunTold) (es : List Event) (k : ℕ) (slack : Slack)
    → Ties g before after es None slack → slack.ahead ≡ 0 → IsFinished g es k
    → TookAll g es slack before.sink after.sink k

-- over one valid store, where the cache had no entries before, each chunk with a byte in the window lies in a block
-- that was served
abbrev pub FinishedServesChunks : Type 0
FinishedServesChunks = (g : Setup) (before after : RunTold) (es : List Event) (k : ℕ) (slack : Slack)
    → IsAllowedHistory es → Ties g before after es None slack → slack.ahead ≡ 0 → IsFinished g es k
    → (s : Store) → IsOver s before.clients → before.cache.entries ≡ Some []
    → AllServed s g.file g.range (served_of_all slack.heard)

-- where a block has as many Expired events as tries, all connections together answered so many requests for it as
-- expired, and their expired answers grew by so many
abbrev pub ExpiriesCounted : Type 0
ExpiriesCounted = (g : Setup) (before after : RunTold) (es : List Event) (stop : Stop) (slack : Slack) (p k : ℕ)
    → count_by (expires p k) es ≡ g.tries → Ties g before after es stop slack
    → HaveExpired g.tries slack.heard before.clients after.clients

-- an allowed history has no more Refreshed events than Expired ones
abbrev pub RefreshesFew : Type 0
RefreshesFew = (es : List Event) → IsAllowedHistory es → count_by is_refresh es ≤ count_by is_expiry es

-- a tied run that goes on stays tied where an error is recorded, or memory is wanting
abbrev pub StopsTied : Type 0
StopsTied = (g : Setup) (b n : RunTold) (es : List Event) (sl : Slack) (x : FileReconstructionError)
    → (x ≡ error.UrlExpired → (p : ℕ) × (k : ℕ) × (count_by (expires p k) es ≡ g.tries))
    → Ties g b n es None sl
    → Ties g b n (es ++ stop_event x ∷ []) (Some x) sl × Ties g b n es (Some error.OutOfMemory) sl

-- ---- lanes

-- the answer to a fetch's own request makes a step
abbrev pub AnswersStep : Type 0
AnswersStep = (a : Ask) (before after : ClientTold) (answer : Result BlockAnswer ClientError) (s : LaneStep) → IsFor a
    → BlockCall before after a.request answer → AnswerStep a answer s → StepDid before after a s

-- a lane that hides nothing goes on with one more step
abbrev pub LanesGoOn : Type 0
LanesGoOn = (b m n : ClientTold) (qs : List Ask) (xs : List LaneStep) (a : Ask) (s : LaneStep)
    → (d : LaneDid b m qs xs) → length qs ≡ length xs → d.hidden ≡ [] → StepDid m n a s
    → LaneDid b n (qs ++ a ∷ []) (xs ++ s ∷ [])

-- a Served step's data is of the answer to the block's own request, among all that its connection said
abbrev pub StepsServe : Type 0
StepsServe = (b n : ClientTold) (x : Exchange) (h : List Served) (more : List Said) (a : Ask) (p k : ℕ)
    (d : XorbBlockData) → length x.served ≡ length (bytes_in x.said) → IsFor a → IsOf b n h more a (step.Served p k d)
    → IsServedData (record { asked = x.asked; served = x.served ++ h; said = x.said ++ more }) p k a.block d

-- the fetches of missing blocks, of which no two are of one, are of new pairs
abbrev pub PairsAreNew : Type 0
PairsAreNew = (es : List Event) (fs : List Ask) → AreUnkept es fs
    → ((p k : ℕ) → count_by (is_pair p k) (map asks_for fs) ≤ 1) → ((p k : ℕ) → count_by (fetches p k) es ≤ 1)
    → (p k : ℕ) → count_by (fetches p k) es + count_by (is_pair p k) (map asks_for fs) ≤ 1

-- where each fetch of a round has tries left and no two are of one block, the expired answers may be recorded after the
-- served ones
abbrev pub RoundsMayExpire : Type 0
RoundsMayExpire = (tries : ℕ) (es : List Event) (fs : List Ask) (bs ns : List ClientTold) (ls : List (List LaneStep))
    → DrewApart fs bs ns ls → All (HasTry tries es) fs
    → ((p k : ℕ) → count_by (is_pair p k) (map asks_for fs) ≤ 1)
    → EachMayExpire tries 0 (es ++ lane_events fetched_on 0 ls) (map places_of ls)

-- where each fetch is of a missing block and no two are of one, the served answers may be recorded, and after these the
-- expired ones
abbrev pub RoundsAllowed : Type 0
RoundsAllowed = (es : List Event) (fs : List Ask) (bs ns : List ClientTold) (ls : List (List LaneStep))
    → DrewApart fs bs ns ls → IsRunning es → All (IsMissingAsk es) fs
    → ((p k : ℕ) → count_by (is_pair p k) (map asks_for fs) ≤ 1)
    → AllowedAfter es (lane_events fetched_on 0 ls)
    × AllowedAfter (es ++ lane_events fetched_on 0 ls) (lane_events expired_on 0 ls)

-- after a round of such fetches, each of a fresh block, all that the lanes did may be recorded, and it is tied
abbrev pub RoundsTied : Type 0
RoundsTied = (g : Setup) (b at : RunTold) (es : List Event) (sl : Slack) (fs : List Ask) (ns : List ClientTold)
    (ls : List (List LaneStep)) → DrewApart fs at.clients ns ls
    → ((p k : ℕ) → count_by (fetches p k) es + count_by (is_pair p k) (map asks_for fs) ≤ 1)
    → All (IsFreshAsk es) fs
    → ((x : MerkleHash) (r : ChunkRange)
    → count_by (is_one x r) (blocks_all (map key_of fs)) ≤ count_by (is_one x r) sl.pending)
    → sl.hidden ≡ no_hidden b.clients → sl.late ≡ no_late b.clients → All (IsPlanAsk g sl.heard) fs
    → EachMayExpire g.tries 0 (es ++ lane_events fetched_on 0 ls) (map places_of ls)
    → (0 < length fs → 1 ≤ sl.spare) → Ties g b at es None sl
    → (to : Slack) × Ties g b (record at { clients = ns })
    ((es ++ lane_events fetched_on 0 ls) ++ lane_events expired_on 0 ls) None to
    × AfterRound b.clients at.clients es fs ls sl to

-- and wherever the recording ends for want of memory, what was recorded is tied
abbrev pub ShortRoundsTied : Type 0
ShortRoundsTied = (g : Setup) (b at : RunTold) (es : List Event) (sl : Slack) (fs : List Ask) (ns : List ClientTold)
    (ls : List (List LaneStep)) (k : ℕ) → DrewApart fs at.clients ns ls
    → ((p i : ℕ) → count_by (fetches p i) es + count_by (is_pair p i) (map asks_for fs) ≤ 1)
    → All (IsFreshAsk es) fs
    → ((x : MerkleHash) (r : ChunkRange)
    → count_by (is_one x r) (blocks_all (map key_of fs)) ≤ count_by (is_one x r) sl.pending)
    → sl.hidden ≡ no_hidden b.clients → sl.late ≡ no_late b.clients → All (IsPlanAsk g sl.heard) fs
    → EachMayExpire g.tries 0 (es ++ lane_events fetched_on 0 ls) (map places_of ls)
    → (0 < length fs → 1 ≤ sl.spare) → Ties g b at es None sl
    → (to : Slack) × Ties g b (record at { clients = ns })
    (es ++ take k (lane_events fetched_on 0 ls ++ lane_events expired_on 0 ls)) None to

-- missing blocks of which no two are one may be recorded as fetched, in any order, and as expired
abbrev pub MissingFetched : Type 0
MissingFetched = (es : List Event) (ts : List Spot) → IsRunning es → AreMissing es ts → Apart ts
    → AllowedAfter es (fetched_at ts)

abbrev pub MissingExpired : Type 0
MissingExpired = (es : List Event) (ts : List Spot) → IsRunning es → AreMissing es ts → AllowedAfter es (expired_at ts)

-- and those with tries left may expire, lane by lane
abbrev pub TriesLeft : Type 0
TriesLeft = (tries lane : ℕ) (es : List Event) (css : List (List Place)) → HaveTries tries es (lane_spots lane css)
    → Apart (lane_spots lane css) → EachMayExpire tries lane es css

-- a fetch of a missing block leaves fewer tries, and so do one that the cache gives and one more expired answer
abbrev pub FetchesFall : Type 0
FetchesFall = (tries : ℕ) (es : List Event) (lane : ℕ) (cs : List Place) (i : ℕ) (c : Place)
    → slice_get cs i ≡ Some c → is_kept es c.0 c.1 ≡ false
    → left tries (es ++ Fetched lane c.0 c.1 ∷ []) cs < left tries es cs

abbrev pub CachedFall : Type 0
CachedFall = (tries : ℕ) (es : List Event) (cs : List Place) (i : ℕ) (c : Place) → slice_get cs i ≡ Some c
    → is_kept es c.0 c.1 ≡ false → left tries (es ++ Cached c.0 c.1 ∷ []) cs < left tries es cs

abbrev pub ExpiriesFall : Type 0
ExpiriesFall = (tries : ℕ) (es : List Event) (lane : ℕ) (cs : List Place) (i : ℕ) (c : Place)
    → slice_get cs i ≡ Some c → is_kept es c.0 c.1 ≡ false → count_by (expires c.0 c.1) es < tries
    → left tries (es ++ Expired lane c.0 c.1 ∷ []) cs < left tries es cs

-- no event leaves more
abbrev pub NoneRises : Type 0
NoneRises = (tries : ℕ) (es : List Event) (e : Event) (cs : List Place)
    → left tries (es ++ e ∷ []) cs ≤ left tries es cs

-- ---- the parts of a turn

-- the signal was asked and said no
abbrev pub PollsTied : Type 0
PollsTied = (g : Setup) (b at : RunTold) (es : List Event) (sl : Slack) (after : SignalTold)
    → AskCall at.signal after false → Ties g b at es None sl
    → Ties g b (record at { signal = after }) es None (record sl { spare = sl.spare + 1 })

-- it said yes
abbrev pub CancelsTied : Type 0
CancelsTied = (g : Setup) (b at : RunTold) (es : List Event) (sl : Slack) (after : SignalTold)
    → AskCall at.signal after true → Ties g b at es None sl
    → Ties g b (record at { signal = after }) es None sl × Rose b.signal.yes after.yes

-- a plan was asked for and recorded
abbrev pub AsksTied : Type 0
AsksTied = (g : Setup) (b at : RunTold) (es : List Event) (sl : Slack) (spare : ℕ) (c n : ClientTold)
    (cs : List ClientTold) (q : FileRange) (id : UniqueId) (o : Option TermBlock)
    → at.clients ≡ c ∷ cs → TermBlockCall c n (plan_query g q id) (Ok o) → sl.lost ≡ [] → sl.spare ≡ spare + 1
    → InStep sl.heard → IsNextQuery g es q → (planned es ≡ [] → q.start ≡ g.range.start)
    → Ties g b at es None sl
    → (heard : List Exchange) × Ties g b (record at { clients = n ∷ cs }) (es ++ plan_event es q o ∷ []) None
    (record sl { heard = heard; lost = []; spare = spare }) × InStep heard × EachGrew sl.heard heard

-- the URLs of a plan were asked for again, and that is recorded
abbrev pub RefreshesTied : Type 0
RefreshesTied = (g : Setup) (b at : RunTold) (es : List Event) (sl : Slack) (p : ℕ) (r : Refresh)
    (us : List RetrievalUrl) (c n : ClientTold) (cs : List ClientTold) (plan : Plan) (query : FileRange)
    → at.clients ≡ c ∷ cs → MayAsk r c n → IsRefreshed r c n us → sl.lost ≡ [] → InStep sl.heard
    → range_at es p ≡ r.range ∷ [] → is_stale es p ≡ true → r.file ≡ g.file
    → IsPlanAccepted g sl.heard plan query → r ≡ plan_refresh g plan query → Ties g b at es None sl
    → (heard : List Exchange) × Ties g b (record at { clients = n ∷ cs }) (es ++ Refreshed p ∷ []) None
    (record sl { heard = heard; lost = [] }) × InStep heard × EachGrew sl.heard heard

-- a plan was asked for, and no event says so: the query that was asked is left
abbrev pub AsksLeft : Type 0
AsksLeft = (g : Setup) (b at : RunTold) (es : List Event) (sl : Slack) (c n : ClientTold) (cs : List ClientTold)
    (q : FileRange) (id : UniqueId) (answer : Result (Option TermBlock) FileReconstructionError)
    → at.clients ≡ c ∷ cs → sl.lost ≡ [] → TermBlockCall c n (plan_query g q id) answer
    → IsNextQuery g es q → Ties g b at es None sl → AskedShort g b at es sl (n ∷ cs)

-- so it is where the URLs of a plan were asked for again
abbrev pub RefreshesLeft : Type 0
RefreshesLeft = (g : Setup) (b at : RunTold) (es : List Event) (sl : Slack) (p : ℕ) (r : Refresh) (c n : ClientTold)
    (cs : List ClientTold) → at.clients ≡ c ∷ cs → sl.lost ≡ [] → MayAsk r c n → range_at es p ≡ r.range ∷ []
    → is_stale es p ≡ true → r.file ≡ g.file → Ties g b at es None sl → AskedShort g b at es sl (n ∷ cs)

-- and where a query was answered, the answer is its own
abbrev pub AsksSaid : Type 0
AsksSaid = (g : Setup) (b at : RunTold) (es : List Event) (sl : Slack) (c n : ClientTold) (cs : List ClientTold)
    (q : FileRange) (id : UniqueId) (answer made : Result (Option TermBlock) FileReconstructionError)
    → at.clients ≡ c ∷ cs → sl.lost ≡ [] → InStep sl.heard → TermBlockCall c n (plan_query g q id) answer
    → (from : FromSaid c n (plan_query g q id) made) → IsNextQuery g es q
    → Ties g b at es None sl → AskedSaid g b at es sl (n ∷ cs) q from.plan

abbrev pub RefreshesSaid : Type 0
RefreshesSaid = (g : Setup) (b at : RunTold) (es : List Event) (sl : Slack) (p : ℕ) (r : Refresh) (c n : ClientTold)
    (cs : List ClientTold) (a : PlanAnswer) → at.clients ≡ c ∷ cs → sl.lost ≡ [] → InStep sl.heard → MayAsk r c n
    → Answered r c n a → range_at es p ≡ r.range ∷ [] → is_stale es p ≡ true → r.file ≡ g.file
    → Ties g b at es None sl
    → AskedSaid g b at es sl (n ∷ cs) r.range a

-- the source of limits was asked, and a term admitted
abbrev pub AdmitsTied : Type 0
AdmitsTied = (m n k : LimitTold) (es fs : List Event) (l : ℕ) → AdmitsCall m n es fs → LimitCall n k l
    → AdmitsCall m k es (fs ++ Admit l ∷ []) × AdmitsCall m k es fs

-- a block of a plan was looked for in the cache, and recorded as cached where it was found
abbrev pub LooksTied : Type 0
LooksTied = (g : Setup) (b at : RunTold) (es fs : List Event) (sl : Slack) (after : CacheTold) (x y : XorbBlock) (p : ℕ)
    → (l : LookedUp x y p at.cache after es fs) → block_at es p x.xorb_block_index ≡ planned_of x ∷ []
    → ((s : Store) → IsOver s b.clients → passes_cached x (block_of s x.xorb_hash x.chunk_ranges) ≡ true)
    → Ties g b at es None sl → Ties g b (record at { cache = after }) fs None (record sl {
      looks = looks_after x x.chunk_ranges l.look.given sl.looks;
      pending = pending_after l.found (planned_of x) sl.pending;
    })

-- memory was wanting for a look
abbrev pub ShortLooksTied : Type 0
ShortLooksTied = (g : Setup) (b at : RunTold) (es fs : List Event) (sl : Slack) (after : CacheTold) (x : XorbBlock)
    → LookedShort x at.cache after es fs → Ties g b at es None sl
    → (more : List Look) × Ties g b (record at { cache = after }) fs None (record sl { looks = sl.looks ++ more })

-- the data of a block was offered to the cache
abbrev pub OffersTied : Type 0
OffersTied = (x : XorbBlock) (before after : CacheTold) (d : XorbBlockData) → x.kept ≡ Some d
    → IsOffered x x.chunk_ranges before after (entry_of d) → OfferOneCall before after x (Ok tt)

-- bytes of a window were taken that go on the pieces and are tested
abbrev pub TakesTied : Type 0
TakesTied = (g : Setup) (b n : RunTold) (es : List Event) (sl : Slack) (after : SinkTold) (bytes : List ℕ)
    → Took n.sink.took after.took bytes → n.sink.faults ≤ after.faults → after.link ≡ n.sink.link
    → (t : Ties g b n es None sl)
    → ((s : Store) → IsOver s b.clients → CacheTells s b.cache → IsPrefix (t.taken.taken ++ bytes) (pieces s es))
    → IsTested g sl.heard sl.looks es (t.taken.taken ++ bytes)
    → Ties g b (record n { sink = after }) es None (record sl { ahead = sl.ahead + length bytes })

-- written terms are recorded
abbrev pub WritesTied : Type 0
WritesTied = (g : Setup) (b n : RunTold) (es : List Event) (sl : Slack) (ns : List ℕ) (rest : ℕ)
    → sl.ahead ≡ total ns + rest → Ties g b n es None sl
    → Ties g b n (es ++ wrote_of ns) None (record sl { ahead = rest })

-- and wherever their recording ends
abbrev pub ShortWritesTied : Type 0
ShortWritesTied = (g : Setup) (b n : RunTold) (es : List Event) (sl : Slack) (ns : List ℕ) (k : ℕ)
    → total ns ≤ sl.ahead → Ties g b n es None sl
    → (rest : ℕ) × Ties g b n (es ++ take k (wrote_of ns)) None (record sl { ahead = rest })

-- where the first planned terms are wholly written, a block is wanted where one of the admitted terms after them has
-- bytes and is of that block
abbrev pub WantedAre : Type 0
WantedAre = (es : List Event) (finished plan block : ℕ) → IsAt es finished
    → list_any (λ c. needs plan block c.1) (unfinished es) ≡ list_any (is_wanted plan block) (open_terms es finished)

-- the next terms, whose blocks are kept where they have bytes, may be recorded as written one after another
abbrev pub WindowsAllowed : Type 0
WindowsAllowed = (es : List Event) (finished : ℕ) (ts rest : List Task) → IsRunning es → IsAt es finished
    → finished + length ts ≤ count_by is_admit es → drop finished (planned es) ≡ ts ++ rest → AreKept es ts
    → AllowedAfter es (wrote_of (map size ts))

-- where all that was taken is the bytes of the first planned terms, and tested, it is tested with the pieces of the
-- terms after them, and with any first bytes of these
abbrev pub WindowsTested : Type 0
WindowsTested = (g : Setup) (xs : List Exchange) (looks : List Look) (es : List Event) (finished : ℕ)
    (ts rest : List Task) (taken : List ℕ) (new : List (List ℕ)) (bytes : List ℕ)
    → length taken ≡ sum_by size (take finished (planned es)) → drop finished (planned es) ≡ ts ++ rest
    → AllZip (IsTaskPiece g xs looks) (filter has_bytes ts) new → IsPrefix bytes (concat new)
    → IsTested g xs looks es taken → IsTested g xs looks es (taken ++ bytes)

-- ---- causes

-- a query in the range was answered with a plan that fails a test
abbrev pub PlansFail : Type 0
PlansFail = (g : Setup) (xs : List Exchange) (i : ℕ) (q : FileRange) (id : UniqueId) (k : Corruption)
    (b n : ClientTold)
    → g.range.start ≤ q.start → q.end ≤ g.range.end
    → (from : FromSaid b n (plan_query g q id) (Err (error.CorruptedReconstruction k)))
    → IsCutAnswer g.file xs i q from.plan → SomeFailed g xs k

-- a file is missing only by an answer that says so
abbrev pub FilesMissing : Type 0
FilesMissing = (g : Setup) (q : FileRange) (id : UniqueId) (b n : ClientTold)
    → (from : FromSaid b n (plan_query g q id) (Err error.FileNotFound)) → from.plan ≡ NoFile

-- and such an answer is its cause, where no told store has the file
abbrev pub FilesAreMissing : Type 0
FilesAreMissing = (g : Setup) (b n : RunTold) (es : List Event) (stop : Stop) (sl : Slack) (q : FileRange)
    → Ties g b n es stop sl → g.range.start < g.range.end → IsQueryAnswer g.file sl.heard q NoFile
    → ((s : Store) → AllTell s b.clients → IsNone (file_of s g.file)) → IsMissingFile g sl.heard b.clients n.clients

-- an answer that fails a test is the cause, where the connections don't tell one valid store
abbrev pub FailuresAreCauses : Type 0
FailuresAreCauses = (g : Setup) (b n : RunTold) (es : List Event) (stop : Stop) (sl : Slack) (k : Corruption)
    → Ties g b n es stop sl → IsQuiet b.clients sl → ((s : Store) → IsOver s b.clients → ⊥)
    → SomeFailed g sl.heard k → IsCorrupted g sl.heard b.clients n.clients k

-- a failed step's bytes fail as those of a block of an accepted plan, by the answer to the block's own request
abbrev pub StepsFail : Type 0
StepsFail = (g : Setup) (xs : List Exchange) (place : BlockOfPlan g xs) (b : ClientTold) (x : Exchange)
    (h : List Served) (more : List Said) (a : Ask) (k : Corruption)
    → length x.served ≡ length (bytes_in x.said) → IsFor a → place.block ≡ a.block → place.number ≡ a.request.index
    → BytesFail b h more a k → BlockFailsIn g xs place a.request.acquisition.plan k
    (record { asked = x.asked; served = x.served ++ h; said = x.said ++ more })
