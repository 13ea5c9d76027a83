-- What a join does: lanes fetch blocks, beside the writing of a window or after it, and what that came to is taken in.
use Rattle.std.specs.Prelude.{ℕ, ◌≡◌, ◌⊎◌, ◌+◌, ◌-◌, ◌^◌, ◌≤◌, min, List, [], length, map, None, Result, IfOk, IfErr}
use Rattle.std.specs.Prelude.{OnOk}
use Rattle.xet_outside.specs.Told.{ClientTold, SinkTold}
use Rattle.xet_error.specs.declared.error.FileReconstructionError.{FileReconstructionError}
use Rattle.xet_error.specs.declared.error.FileReconstructionError.TheVariants as error
use Rattle.xet_events.specs.declared.event.Event.{Event}
use Rattle.xet_writers.specs.Calls.{closed_by}
use Rattle.xet_writers.specs.Queues.{ready_bytes}
use Rattle.xet_writers.specs.Sequential.{ReadyCall, Sequential, WindowCall, told_of}
use Rattle.xet_ties.specs.Setup.{RunTold, Setup, most_lanes}
use Rattle.xet_lane.specs.declared.joined.Joined.{Joined}
use Rattle.xet_lane.specs.declared.lane.Fetch.{Fetch}
use Rattle.xet_lane.specs.Fetches.{ask_of}
use Rattle.xet_lane.specs.Ends.{ended}
use Rattle.xet_lanes.specs.Rounds.{LanesDrew, RoundTold}
use Rattle.xet_leader.specs.declared.missing_blocks.BlockAt.{BlockAt}
use Rattle.xet_stages.specs.declared.outcomes.Outcome.{Outcome}
use Rattle.xet_leader.specs.FetchLists.{IsFetchList}
use Rattle.xet_leader.specs.Fetching.{AreFetches}
use Rattle.xet_leader.specs.Led.{Led}
use Rattle.xet_leader.specs.Looks.{to_round}
use Rattle.xet_stages.specs.Measures.{LeavesLess}
use Rattle.xet_leader.specs.Offering.{AreServed, due_of}
use Rattle.xet_stages.specs.Outcomes.{OutcomeFails, TookOutcome}
use Rattle.xet_stages.specs.RunWindows.{IsWindow}
use Rattle.xet_leader.specs.Steady.{IsFailing, IsGoing, IsIdle, IsSteady, Loose, Moment}
use Rattle.xet_stages.specs.Windows.{with_pieces}

-- ---- the fetches, and the writing

-- lanes drew the fetches of these blocks, and what was ready was written, beside them or before
pub record FetchedBeside {S : Type 0} (told : S → SinkTold) (l : Led) (cs : List BlockAt) (a z : RoundTold S)
    (j : Joined) : Type 0 where
  pub asked : List Fetch
  pub made : AreFetches l.plans l.fetches cs asked
  pub wrote : ReadyCall told a.writer z.writer j.wrote
  pub window : closed_by (told_of a.writer) ≡ None
      → WindowCall (told a.writer.sink) (told z.writer.sink) (ready_bytes a.writer.queue) j.wrote
  pub drew : LanesDrew (map ask_of asked) a.clients z.clients (map ended j.ends.items)
  pub lanes : length j.ends.items ≤ most_lanes

-- memory was wanting for it: nothing was asked, and nothing written
pub record FetchRefused {S : Type 0} (a z : RoundTold S) (e : FileReconstructionError) : Type 0 where
  pub same : z ≡ a
  pub memory : e ≡ error.OutOfMemory

pub record FetchTurn {S : Type 0} (told : S → SinkTold) (l : Led) (cs : List BlockAt) (a z : RoundTold S)
    (answer : Result Joined FileReconstructionError) : Type 0 where
  pub ok : IfOk answer (FetchedBeside told l cs a z)
  pub err : IfErr answer (FetchRefused a z)

-- ---- the round

-- the leader that made fetches of these blocks
abbrev pub fetched_led : List BlockAt → Led → Led
fetched_led cs l = record l { fetches = min (l.fetches + length cs) (2 ^ 64 - 1) }

-- what the round came to was taken in
pub record RoundDone {S : Type 0} (told : S → SinkTold) (tries : ℕ) (cs : List BlockAt) (lengths : List ℕ)
    (a z : RoundTold S) (es fs : List Event) (l k : Led) (o : Outcome) : Type 0 where
  pub joined : Joined
  pub beside : FetchedBeside told l cs a z joined
  pub took : TookOutcome tries lengths joined es fs (fetched_led cs l) k o

-- or it could not be
pub record RoundStops {S : Type 0} (told : S → SinkTold) (tries : ℕ) (cs : List BlockAt) (lengths : List ℕ)
    (a z : RoundTold S) (es fs : List Event) (l : Led) (e : FileReconstructionError) : Type 0 where
  pub joined : Joined
  pub beside : FetchedBeside told l cs a z joined
  pub fails : OutcomeFails tries lengths joined es fs (fetched_led cs l) e

-- or nothing was done
abbrev pub RoundFails : {S : Type 0} → (S → SinkTold) → ℕ → List BlockAt → List ℕ → RoundTold S → RoundTold S
    → List Event → List Event → Led → FileReconstructionError → Type 0
RoundFails told tries cs lengths a z es fs l e =
    ((fs ≡ es) × FetchRefused a z e) ⊎ RoundStops told tries cs lengths a z es fs l e

-- one call of `run_round`
pub record RoundTurn {S : Type 0} (told : S → SinkTold) (tries : ℕ) (cs : List BlockAt) (lengths : List ℕ)
    (a z : RoundTold S) (es fs : List Event) (l k : Led)
    (answer : Result Outcome FileReconstructionError) : Type 0 where
  pub ok : IfOk answer (RoundDone told tries cs lengths a z es fs l k)
  pub err : IfErr answer (RoundFails told tries cs lengths a z es fs l)

-- ---- a run before it

-- the writer took all that was written, and holds these pieces
pub record HoldsWindow {S : Type 0} (told : S → SinkTold) (m : Moment) (pieces : List (List ℕ))
    (w : Sequential S) : Type 0 where
  pub before : Sequential S
  pub idle : IsIdle told m before
  pub now : w ≡ with_pieces before pieces

-- a run that goes on and is to fetch these blocks, with a window of terms of these lengths
pub record IsPrepared {S : Type 0} (told : S → SinkTold) (g : Setup) (b : RunTold) (m : Moment) (l : Led)
    (cs : List BlockAt) (lengths : List ℕ) (w : Sequential S) : Type 0 where
  pub going : IsGoing g b m (to_round m.events cs) l
  pub listed : IsFetchList m.events l.finished cs
  pub pieces : List (List ℕ)
  pub window : IsWindow g b m.events going.slack l lengths pieces
  pub writer : HoldsWindow told m pieces w

-- such a run, of which these are the connections, the history and the leader
pub record CanRound {S : Type 0} (told : S → SinkTold) (cs : List ClientTold) (es : List Event) (l : Led)
    (places : List BlockAt) (lengths : List ℕ) (w : Sequential S) : Type 0 where
  pub setup : Setup
  pub start : RunTold
  pub moment : Moment
  pub clients_are : moment.told.clients ≡ cs
  pub events_are : moment.events ≡ es
  pub is : IsPrepared told setup start moment l places lengths w

-- ---- and after it

-- what is to be settled
abbrev pub to_settle : List Event → Outcome → Loose
to_settle es o = record { pending = []; due = due_of es o.served.items; stale = o.stale.items; polls = 0 }

-- over any start, such a run is steady after it and has blocks to offer, which keep data, and plans to ask for again;
-- or it is to stop
pub record RoundLead {S : Type 0} (told : S → SinkTold) (g : Setup) (m n : Moment) (cs : List BlockAt)
    (lengths : List ℕ) (l k : Led) (v w : Sequential S) (answer : Result Outcome FileReconstructionError)
    : Type 0 where
  pub ok : (b : RunTold) → IsPrepared told g b m l cs lengths v
      → IfOk answer (λ o. IsSteady told g b n (to_settle n.events o) k w ×
      AreServed n.events k.plans o.served.items)
  pub err : (b : RunTold) → IsPrepared told g b m l cs lengths v → IfErr answer (IsFailing g b n)
  -- and no more is left, but less where an admitted term wasn't written
  pub less : (b : RunTold) → IsPrepared told g b m l cs lengths v → OnOk answer (LeavesLess g m.events n.events l k)

-- so over the moment of which these are the connections and events
abbrev pub RoundLeads : {S : Type 0} → (S → SinkTold) → ℕ → List BlockAt → List ℕ → RoundTold S → RoundTold S
    → List Event → List Event → Led → Led → Result Outcome FileReconstructionError → Type 0
RoundLeads told tries cs lengths a z es fs l k answer = (g : Setup) (m : Moment) → g.tries ≡ tries
    → m.told.clients ≡ a.clients → m.events ≡ es → RoundLead told g m
    (record { told = record m.told { clients = z.clients; sink = told z.writer.sink }; events = fs }) cs lengths l k
    a.writer z.writer answer
