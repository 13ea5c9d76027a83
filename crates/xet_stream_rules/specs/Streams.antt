-- A stream as plain values, what its history says of its pieces, and how it stands to stores.
use Rattle.std.specs.Prelude.{ℕ, ◌≡◌, ◌||◌, ◌+◌, ◌-◌, ◌<◌, Bool, true, false, List, [], ◌∷◌, count_by, filter}
use Rattle.std.specs.Prelude.{length}
use Rattle.std.specs.Prelude.{map, nat_lt, slice_get, take, Option, Some, None, IfSome, MatchOption}
use Rattle.xet_base.specs.declared.cas_types.FileRange.{FileRange}
use Rattle.xet_base.specs.Store.{Store}
use Rattle.xet_outside.specs.Answers.{bytes_in, plans_in}
use Rattle.xet_outside.specs.Told.{CacheEntry, CacheTold, ClientTold}
use Rattle.xet_error.specs.declared.error.Corruption.{Corruption}
use Rattle.xet_error.specs.declared.error.FileReconstructionError.{FileReconstructionError}
use Rattle.xet_events.specs.declared.event.Event.{Event}
use Rattle.xet_events.specs.Limits.{LimitTold}
use Rattle.xet_events.specs.declared.event.Event.TheVariants.{Wrote}
use Rattle.xet_events.specs.Events.{Task, expires, is_kept, planned}
use Rattle.xet_history.specs.TrueHistory.{IsTrueHistory, ReachesEnd, queries}
use Rattle.xet_ties.specs.InCall.{Exchange}
use Rattle.xet_ties.specs.Saids.{has_bytes, some_of}
use Rattle.xet_ties.specs.Setup.{CacheTells, IsOver, RunTold, Setup, download_of}
use Rattle.xet_ties.specs.Ties.{FirstStarts, Slack}
use Rattle.xet_leader.specs.Led.{IsLed, Led}
use Rattle.xet_leader.specs.LedTerms.{OneFails, ahead}

-- ---- terms

-- the event is a delivered piece
abbrev pub is_wrote : Event → Bool
is_wrote (Wrote taken) = true
is_wrote _ = false

-- how many pieces were delivered
abbrev pub delivered : List Event → ℕ
delivered es = count_by is_wrote es

-- the next planned term that has bytes and wasn't delivered: the k-th piece is the k-th planned term with bytes
abbrev pub next_term : List Event → Option Task
next_term es = slice_get (some_of es) (delivered es)

-- there is one, and its block is kept
abbrev pub IsNextKept : List Event → Type 0
IsNextKept es = MatchOption (next_term es) ⊥ (λ t. is_kept es t.plan t.term.block ≡ true)

-- each planned term with bytes was delivered, and each byte of the range below the known end lies in an answered query
pub record IsAtEnd (r : FileRange) (es : List Event) : Type 0 where
  pub all : next_term es ≡ None
  pub reached : r.start < r.end → ReachesEnd r es

-- how many steps may answer that the next term isn't there yet: one for each expired answer that its block may have;
-- one more before there is a next term
abbrev pub left_for : ℕ → List Event → Option Task → ℕ
left_for tries es None = tries + 1
left_for tries es (Some t) = tries - count_by (expires t.plan t.term.block) es

-- ---- the stream

pub record StreamView : Type 0 where
  pub setup : Setup
  -- its history
  pub events : List Event
  -- its leader, with the blocks that it keeps; none before its first step
  pub led : Option Led
  -- what its source of limits tells
  pub limits : LimitTold
  -- the error that it told
  pub told_error : Option FileReconstructionError
  pub cancelled : Bool
  -- how often its own flag was seen raised
  pub seen : ℕ
  -- whether a pull was made
  pub pulled : Bool

-- it was cancelled, by a call or by its flag
abbrev pub is_closed : Bool → ℕ → Bool
is_closed cancelled seen = cancelled || nat_lt 0 seen

-- no error was told, and it wasn't cancelled, by a call or by its flag
pub record IsOpen (v : StreamView) : Type 0 where
  pub untold : v.told_error ≡ None
  pub uncancelled : is_closed v.cancelled v.seen ≡ false

abbrev pub waits_left : StreamView → ℕ
waits_left v = left_for v.setup.tries v.events (next_term v.events)

-- there may be further terms
pub record MayGoOn (v : StreamView) : Type 0 where
  pub still : IsOpen v
  pub before : IsAtEnd v.setup.range v.events → ⊥

-- a stream of which nothing was pulled
abbrev pub new_stream : Setup → LimitTold → StreamView
new_stream g limits = record {
  setup = g;
  events = [];
  led = None;
  limits = limits;
  told_error = None;
  cancelled = false;
  seen = 0;
  pulled = false;
}

-- how many blocks a leader asked for
abbrev pub fetches_in : Option Led → ℕ
fetches_in None = 0
fetches_in (Some l) = l.fetches

-- the block that the stream keeps for a term that wasn't delivered fails this test
abbrev pub KeptFails : StreamView → Corruption → Type 0
KeptFails v k = MatchOption v.led ⊥ (λ l. OneFails (ahead l) k)

-- ---- what is told from outside

-- a run's arguments of which one connection tells this store, and the cache these entries
abbrev pub telling_so : Option Store → Option (List CacheEntry) → RunTold
telling_so store entries = record {
  clients = record {
    store = store;
    asked = None;
    said = None;
    served = None;
    faults = 0;
    expiries = 0;
    link = [];
  } ∷ [];
  cache = record { entries = entries; looked = None; offers = None; faults = 0 };
  signal = record { asks = None; yes = 0 };
  sink = record { took = None; flushed = None; faults = 0; link = [] };
  limits = record { fixed = None; most = None; limits = None };
}

-- nobody tells anything; connections tell this store; and the cache does too
abbrev pub nobody : RunTold
nobody = telling_so None None

abbrev pub connections : Store → RunTold
connections s = telling_so (Some s) None

abbrev pub everybody : Store → RunTold
everybody s = telling_so (Some s) (Some [])

-- these connections and this cache tell what those arguments do
pub record TellsAs (b : RunTold) (cs : List ClientTold) (k : CacheTold) : Type 0 where
  pub clients : (s : Store) → IsOver s b.clients → IsOver s cs
  pub cache : (s : Store) → IsOver s b.clients → CacheTells s b.cache → CacheTells s k

-- ---- how the stream stands to it

-- its leader stands to its history as one of a run does, by what all connections together were asked for plans, served
-- and said in all pulls
pub record Carries (b : RunTold) (g : Setup) (es : List Event) (l : Led) : Type 0 where
  pub slack : Slack
  pub log : Exchange
  pub heard : slack.heard ≡ log ∷ []
  pub asked : log.asked ≡ map (λ q. (g.file, q)) (queries es)
  pub answered : length log.asked ≡ length (plans_in log.said)
  pub paired : length log.served ≡ length (bytes_in log.said)
  pub led : IsLed g b es slack [] l
  -- a piece is a whole term: as many were delivered as finished terms have bytes
  pub whole : length (filter has_bytes (take l.finished (planned es))) ≡ delivered es

-- where all pulls so far were over such connections and caches: the history is true of a store that they tell, and as
-- long as the stream is open its leader goes on, with tested data, and over a store with the store's
pub record Stands (b : RunTold) (v : StreamView) : Type 0 where
  pub true_of : (s : Store) → IsOver s b.clients → IsTrueHistory s (download_of v.setup) v.events
  -- the first planned term starts where the range does
  pub starts : FirstStarts v.setup.range.start (planned v.events)
  pub led : IsOpen v → IfSome v.led (Carries b v.setup v.events)

-- whatever all pulls tell, a stream that stood so before a pull over these connections and this cache does after it
abbrev pub StandsStill : List ClientTold → CacheTold → StreamView → StreamView → Type 0
StandsStill cs k b n = (store : Option Store) (entries : Option (List CacheEntry))
    → TellsAs (telling_so store entries) cs k → Stands (telling_so store entries) b
    → Stands (telling_so store entries) n
