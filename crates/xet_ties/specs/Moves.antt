-- What one step of a run's leader may do to what its arguments tell.
use Rattle.std.specs.Prelude.{ℕ, ◌≡◌, ◌⊎◌, ◌+◌, ◌≤◌, ◌^◌, ◌-◌, min, map, false, cond, List, [], ◌∷◌, ◌++◌, count_by}
use Rattle.std.specs.Prelude.{length, Option, None}
use Rattle.xet_base.specs.declared.cas_types.ChunkRange.{ChunkRange}
use Rattle.xet_base.specs.declared.merklehash.MerkleHash.{MerkleHash}
use Rattle.xet_base.specs.Store.{Store}
use Rattle.xet_outside.specs.declared.block.BlockBytes.{BlockBytes}
use Rattle.xet_outside.specs.declared.said.Said.{Said}
use Rattle.xet_outside.specs.declared.served.Served.{Served}
use Rattle.xet_outside.specs.Answers.{IsPaired, bytes_in, late_in, plans_in}
use Rattle.xet_outside.specs.Told.{Added, CacheEntry, CacheTold, ClientTold, Counted, Grew, Query}
use Rattle.xet_events.specs.declared.event.Event.{Event}
use Rattle.xet_events.specs.declared.event.PlannedBlock.{PlannedBlock}
use Rattle.xet_events.specs.Events.{error_in, expires, is_plan, taken_in, tasks_in}
use Rattle.xet_history.specs.TrueHistory.{IsTrueEvent, queries_in}
use Rattle.xet_ties.specs.Gains.{IsServedEntry}
use Rattle.xet_ties.specs.History.{IsOneCached, IsRenewed, IsWithin, asked_in, cached_in, fetched_in, limit_in}
use Rattle.xet_ties.specs.History.{round_in}
use Rattle.xet_ties.specs.InCall.{Exchange, Place, late_places}
use Rattle.xet_ties.specs.Saids.{EventPassed, FirstRenewed, IsEventSaid}
use Rattle.xet_ties.specs.Setup.{ClientGoesOn, Setup}
use Rattle.xet_ties.specs.Ties.{EachExpired, EachServed, IsEntryOf, IsServed, Slack, all_late, at_place}
use Rattle.xet_ties.specs.Ties.{all_of, has_one, is_one, is_served}

-- ---- queries

-- a connection was asked these queries and said this, and served nothing
pub record QueryStep (before after : ClientTold) (qs : List Query) (all : List Said) : Type 0 where
  pub goes_on : ClientGoesOn before after
  pub asked : Added before.asked after.asked qs
  pub said : Added before.said after.said all
  pub quiet : bytes_in all ≡ []
  pub late : late_in all ≡ []
  pub served : after.served ≡ before.served

-- so the first connection of some, and the others are as before
abbrev pub FirstQuery : List ClientTold → List ClientTold → List Query → List Said → Type 0
FirstQuery [] ns qs all = ⊥
FirstQuery (b ∷ bs) [] qs all = ⊥
FirstQuery (b ∷ bs) (n ∷ ns) qs all = QueryStep b n qs all × (ns ≡ bs)

-- what was heard with this of the first connection
abbrev pub heard_first : List Query → List Said → List Exchange → List Exchange
heard_first qs all [] = []
heard_first qs all (x ∷ xs) = record { asked = x.asked ++ qs; served = x.served; said = x.said ++ all } ∷ xs

-- ---- the cache

-- a look for a block of one range
pub record LookStep (before after : CacheTold) (x : PlannedBlock) (r : ChunkRange)
    (given : Option BlockBytes) : Type 0 where
  pub one : x.ranges ≡ r ∷ []
  pub looked : Grew before.looked after.looked (x.xorb, r, given)
  pub offers : after.offers ≡ before.offers
  pub entries : after.entries ≡ before.entries
  pub among : IsEntryOf before.entries (x.xorb, r, given)
  pub faults : before.faults ≤ after.faults

-- the entry of a served block was added
pub record PutEntry (g : Setup) (xs : List Exchange) (before after : CacheTold) : Type 0 where
  pub entry : CacheEntry
  pub grew : Grew before.entries after.entries entry
  pub served : IsServedEntry g xs entry

-- a put of such an entry
pub record PutStep (g : Setup) (xs : List Exchange) (before after : CacheTold) : Type 0 where
  pub looked : after.looked ≡ before.looked
  pub offers : Counted before.offers after.offers
  pub entries : (after.entries ≡ before.entries) ⊎ PutEntry g xs before after
  pub faults : before.faults ≤ after.faults

-- ---- events

-- an event that plans, caches and admits nothing, and what it takes from the slack
pub record Fits (g : Setup) (es : List Event) (e : Event) (sl to : Slack) : Type 0 where
  pub heard : to.heard ≡ sl.heard
  pub looks : to.looks ≡ sl.looks
  pub calm : to.calm ≡ sl.calm
  pub query : queries_in e ≡ []
  pub true_of : (s : Store) → IsTrueEvent s g.file g.multirange e
  pub said : (x : Exchange) → IsEventSaid g x e
  pub within : IsWithin e
  pub plan : is_plan e ≡ false
  pub tasks : tasks_in e ≡ []
  pub served : (bs ns : List ClientTold) → IsServed es sl.hidden sl.late bs ns
      → IsServed (es ++ e ∷ []) to.hidden to.late bs ns
  pub expired : (xs : List Exchange) → EachExpired es 0 xs sl.late → EachExpired (es ++ e ∷ []) 0 xs to.late
  pub heard_served : (xs : List Exchange) → EachServed es 0 xs sl.hidden → EachServed (es ++ e ∷ []) 0 xs to.hidden
  pub asked : sl.lost ≡ asked_in g.file es e ++ to.lost
  pub tried : (p k : ℕ) → (count_by (expires p k) es + cond (expires p k e) 1 0)
      + count_by (at_place p k) (all_late to.late) ≤ g.tries
  pub renewed : IsRenewed es e
  pub refreshes : FirstRenewed g sl.lost sl.heard → FirstRenewed g to.lost sl.heard
  pub passed : EventPassed g sl.heard e
  pub one_cached : IsOneCached es e
  pub cached : cached_in es e ≡ []
  pub pending : (x : MerkleHash) (r : ChunkRange)
      → (count_by (is_one x r) (fetched_in es e) + count_by (is_one x r) to.pending)
      + count_by (is_served x r) (all_of to.hidden)
      ≤ count_by (is_one x r) sl.pending + count_by (is_served x r) (all_of sl.hidden)
  pub due : sl.due + count_by has_one (fetched_in es e) ≡ to.due
  pub spare : length (round_in es e) + to.spare ≤ sl.spare
  pub limit : limit_in e ≡ []
  pub ahead : sl.ahead ≡ taken_in e + to.ahead
  pub error : error_in e ≡ None

-- ---- joins

-- what a join does to one connection: it served these entries and said this, and answered as expired the requests for
-- the blocks of these places
pub record JoinStep (before after : ClientTold) (hidden : List Served) (all : List Said)
    (late : List Place) : Type 0 where
  pub goes_on : ClientGoesOn before after
  pub asked : after.asked ≡ before.asked
  pub quiet : plans_in all ≡ []
  pub pairs : IsPaired before after hidden all
  pub said_late : late_places all ≡ late
  pub expired : min (before.expiries + length late) (2 ^ 64 - 1) ≤ after.expiries

-- so of each connection
abbrev pub EachJoined : List ClientTold → List ClientTold → List (List Served) → List (List Said) → List (List Place)
    → Type 0
EachJoined [] [] [] [] [] = Unit {0}
EachJoined (b ∷ bs) (n ∷ ns) (h ∷ hs) (a ∷ alls) (l ∷ ls) = JoinStep b n h a l × EachJoined bs ns hs alls ls
EachJoined bs ns hs alls ls = ⊥

-- what was heard with this of each connection
abbrev pub heard_join : List (List Served) → List (List Said) → List Exchange → List Exchange
heard_join (h ∷ hs) (a ∷ alls) (x ∷ xs) =
    record { asked = x.asked; served = x.served ++ h; said = x.said ++ a } ∷ heard_join hs alls xs
heard_join hs alls xs = []

-- ---- of connections that hide nothing

abbrev pub no_hidden : List ClientTold → List (List Served)
no_hidden bs = map (λ _. []) bs

abbrev pub no_late : List ClientTold → List (List Place)
no_late bs = map (λ _. []) bs

abbrev pub no_exchange : List ClientTold → List Exchange
no_exchange bs = map (λ _. record { asked = []; served = []; said = [] }) bs

-- all that is told is in the history
abbrev pub no_slack : List ClientTold → Slack
no_slack bs = record {
  heard = no_exchange bs;
  looks = [];
  hidden = no_hidden bs;
  late = no_late bs;
  pending = [];
  due = 0;
  spare = 0;
  lost = [];
  ahead = 0;
  calm = length bs;
}
