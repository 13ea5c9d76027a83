-- What the parts of a turn record.
use Rattle.std.specs.Prelude.{ℕ, ◌≡◌, ◌+◌, ◌<◌, ◌≤◌, Bool, false, ◌==◌, ◌&&◌, cond, nat_lt, count_by, List, [], ◌∷◌}
use Rattle.std.specs.Prelude.{◌++◌, take, map, Result, OnOk, OnErr, IfErr}
use Rattle.std.specs.List.{flat_map}
use Rattle.xet_error.specs.declared.error.FileReconstructionError.{FileReconstructionError}
use Rattle.xet_error.specs.declared.error.FileReconstructionError.TheVariants as error
use Rattle.xet_outside.specs.declared.served.Served.{Served}
use Rattle.xet_outside.specs.Told.{served_of}
use Rattle.xet_events.specs.declared.event.Event.{Event}
use Rattle.xet_events.specs.declared.event.Event.TheVariants.{Fetched, Expired, Wrote}
use Rattle.xet_events.specs.declared.event.PlannedBlock.{PlannedBlock}
use Rattle.xet_events.specs.Allowed.{IsMissing}
use Rattle.xet_events.specs.Events.{expires, is_kept}
use Rattle.xet_ties.specs.History.{block_at, entry_of, is_expired}
pub use Rattle.xet_ties.specs.InCall.{Place}
use Rattle.xet_ties.specs.Lanes.{Ask}
use Rattle.xet_ties.specs.declared.lane_step.LaneStep.{LaneStep}
use Rattle.xet_ties.specs.declared.lane_step.LaneStep.TheVariants as step

-- ---- events

-- the event of a lane's step that was served, and of one that was answered that its URL had expired
abbrev pub fetched_event : ℕ → LaneStep → List Event
fetched_event lane (step.Served p k d) = Fetched lane p k ∷ []
fetched_event lane (step.Expired p k) = []
fetched_event lane (step.Failed e) = []

abbrev pub expired_event : ℕ → LaneStep → List Event
expired_event lane (step.Served p k d) = []
expired_event lane (step.Expired p k) = Expired lane p k ∷ []
expired_event lane (step.Failed e) = []

-- those of all steps of a lane
abbrev pub fetched_on : ℕ → List LaneStep → List Event
fetched_on lane ss = flat_map (fetched_event lane) ss

abbrev pub expired_on : ℕ → List LaneStep → List Event
expired_on lane ss = flat_map (expired_event lane) ss

-- those of all lanes, from a number on
abbrev pub lane_events : (ℕ → List LaneStep → List Event) → ℕ → List (List LaneStep) → List Event
lane_events on m [] = []
lane_events on m (ss ∷ ls) = on m ss ++ lane_events on (m + 1) ls

-- the event of a written term; an empty one has none
abbrev pub wrote_event : ℕ → List Event
wrote_event n = cond (nat_lt 0 n) (Wrote n ∷ []) []

abbrev pub wrote_of : List ℕ → List Event
wrote_of ns = flat_map wrote_event ns

-- these events were recorded in order; for want of memory the first ones
pub record Recorded {A : Type 0} (before after : List Event) (events : List Event)
    (answer : Result A FileReconstructionError) : Type 0 where
  pub all : OnOk answer (after ≡ before ++ events)
  pub some : OnErr answer ((k : ℕ) × (after ≡ before ++ take k events))
  pub memory : IfErr answer (λ e. e ≡ error.OutOfMemory)

-- ---- blocks that lanes fetched

-- a plan's number, the block's number in it, and the block
abbrev pub Key : Type 0
Key = ℕ × ℕ × PlannedBlock

abbrev pub fetched_all : ℕ → List Key → List Event
fetched_all lane cs = map (λ (c : Key). Fetched lane c.0 c.1) cs

abbrev pub entries_all : List Key → List Served
entries_all cs = map (λ (c : Key). entry_of c.0 c.1 c.2) cs

abbrev pub blocks_all : List Key → List PlannedBlock
blocks_all cs = map (λ (c : Key). c.2) cs

-- the blocks of the lanes from a number on
abbrev pub lanes_fetched : ℕ → List (List Key) → List Event
lanes_fetched lane [] = []
lanes_fetched lane (cs ∷ css) = fetched_all lane cs ++ lanes_fetched (lane + 1) css

-- what the lanes served: the entries of these blocks, and what is to stay hidden. Connections past the lanes are last
abbrev pub lanes_entries : List (List Key) → List (List Served) → List (List Served)
lanes_entries [] hs = hs
lanes_entries (cs ∷ css) [] = entries_all cs ∷ lanes_entries css []
lanes_entries (cs ∷ css) (h ∷ hs) = (entries_all cs ++ h) ∷ lanes_entries css hs

-- each is a planned block that isn't expired
abbrev pub AreFresh : List Event → List Key → Type 0
AreFresh es [] = Unit {0}
AreFresh es (c ∷ cs) = (block_at es c.0 c.1 ≡ c.2 ∷ []) × (is_expired es c.0 c.1 ≡ false) × AreFresh es cs

abbrev pub EachFresh : List Event → List (List Key) → Type 0
EachFresh es [] = Unit {0}
EachFresh es (cs ∷ css) = AreFresh es cs × EachFresh es css

-- ---- blocks whose URL had expired

abbrev pub expired_all : ℕ → List Place → List Event
expired_all lane cs = map (λ (c : Place). Expired lane c.0 c.1) cs

abbrev pub lanes_expired : ℕ → List (List Place) → List Event
lanes_expired lane [] = []
lanes_expired lane (cs ∷ css) = expired_all lane cs ++ lanes_expired (lane + 1) css

-- the blocks of each lane whose URL had expired, and then others. Connections past the lanes are last
abbrev pub lanes_late : List (List Place) → List (List Place) → List (List Place)
lanes_late [] ks = ks
lanes_late (cs ∷ css) [] = cs ∷ lanes_late css []
lanes_late (cs ∷ css) (k ∷ ks) = (cs ++ k) ∷ lanes_late css ks

-- each may expire once more, after those before it
abbrev pub MayExpire : ℕ → ℕ → List Event → List Place → Type 0
MayExpire tries lane es [] = Unit {0}
MayExpire tries lane es (c ∷ cs) = (is_expired es c.0 c.1 ≡ false) × (count_by (expires c.0 c.1) es < tries)
    × MayExpire tries lane (es ++ Expired lane c.0 c.1 ∷ []) cs

abbrev pub EachMayExpire : ℕ → ℕ → List Event → List (List Place) → Type 0
EachMayExpire tries lane es [] = Unit {0}
EachMayExpire tries lane es (cs ∷ css) =
    MayExpire tries lane es cs × EachMayExpire tries (lane + 1) (es ++ expired_all lane cs) css

-- ---- what a lane's steps record

-- the block that a fetch asks, and the entry of its request
abbrev pub key_of : Ask → Key
key_of a = (a.request.acquisition.plan, a.request.index, record { xorb = a.request.xorb; ranges = a.request.chunks })

abbrev pub asks_for : Ask → Served
asks_for a = served_of a.request

-- the fetch is of a planned block that isn't expired
pub record IsFreshAsk (es : List Event) (a : Ask) : Type 0 where
  pub planned : block_at es (key_of a).0 (key_of a).1 ≡ (key_of a).2 ∷ []
  pub fresh : is_expired es (key_of a).0 (key_of a).1 ≡ false

-- the fetch is of a block that isn't expired and has tries left
pub record HasTry (tries : ℕ) (es : List Event) (a : Ask) : Type 0 where
  pub fresh : is_expired es a.request.acquisition.plan a.request.index ≡ false
  pub left : count_by (expires a.request.acquisition.plan a.request.index) es < tries

-- the blocks of a lane's Served steps
abbrev pub keys_in : Ask → LaneStep → List Key
keys_in a (step.Served p k d) = key_of a ∷ []
keys_in a (step.Expired p k) = []
keys_in a (step.Failed e) = []

abbrev pub keys_of : List Ask → List LaneStep → List Key
keys_of qs [] = []
keys_of [] (s ∷ ss) = []
keys_of (a ∷ qs) (s ∷ ss) = keys_in a s ++ keys_of qs ss

-- and the places of its Expired ones
abbrev pub places_in : LaneStep → List Place
places_in (step.Served p k d) = []
places_in (step.Expired p k) = (p, k) ∷ []
places_in (step.Failed e) = []

abbrev pub places_of : List LaneStep → List Place
places_of ss = flat_map places_in ss

-- ---- many blocks

-- a lane's number, a plan's number and a block's number in it
abbrev pub Spot : Type 0
Spot = ℕ × ℕ × ℕ

abbrev pub fetched_at : List Spot → List Event
fetched_at ts = map (λ (t : Spot). Fetched t.0 t.1 t.2) ts

abbrev pub expired_at : List Spot → List Event
expired_at ts = map (λ (t : Spot). Expired t.0 t.1 t.2) ts

abbrev pub at_spot : ℕ → ℕ → Spot → Bool
at_spot p k t = p == t.1 && k == t.2

-- the blocks of a lane, and of all lanes, from a number on
abbrev pub spots : ℕ → List Place → List Spot
spots lane cs = map (λ (c : Place). (lane, c.0, c.1)) cs

abbrev pub lane_spots : ℕ → List (List Place) → List Spot
lane_spots lane [] = []
lane_spots lane (cs ∷ css) = spots lane cs ++ lane_spots (lane + 1) css

abbrev pub places : List Key → List Place
places cs = map (λ (c : Key). (c.0, c.1)) cs

-- no two are of one block
abbrev pub Apart : List Spot → Type 0
Apart ts = (p k : ℕ) → count_by (at_spot p k) ts ≤ 1

-- each is missing
abbrev pub AreMissing : List Event → List Spot → Type 0
AreMissing es [] = Unit {0}
AreMissing es (t ∷ ts) = IsMissing es t.1 t.2 × AreMissing es ts

-- none of these expired since its plan's last refresh, and each has tries left
abbrev pub HaveTries : ℕ → List Event → List Spot → Type 0
HaveTries tries es [] = Unit {0}
HaveTries tries es (t ∷ ts) =
    (is_expired es t.1 t.2 ≡ false) × (count_by (expires t.1 t.2) es < tries) × HaveTries tries es ts

-- each fetch is of a block that isn't kept
abbrev pub AreUnkept : List Event → List Ask → Type 0
AreUnkept es [] = Unit {0}
AreUnkept es (a ∷ fs) = (is_kept es a.request.acquisition.plan a.request.index ≡ false) × AreUnkept es fs
