-- A run after a round.
use Rattle.std.proofs.Common.{◌≡◌, ℕ, ◌+◌, true, false, List, [], ◌∷◌, ◌++◌, length, take, drop, refl, sym, subst, ◌∙◌, ap, arith, append_assoc, ⊎_elim, inl, inr, None, Some, Ok, Err, ◌<◌, ◌≤◌}
use Rattle.std.specs.Prelude.{Result, IfErr, IfOk, count_by, filter, map}
use Rattle.std.specs.List.{concat, flat_map, sum_by}
use Rattle.std.proofs.Math.Seq.{drop-length}
use Rattle.std.proofs.lemmas.List.{append-nil, length-map, take-append-drop, take_all}
use Rattle.std.proofs.lemmas.List.Sums.{sum_by-append, sum_by-cons}
use Rattle.xet_outside.specs.Told.{ClientTold, SinkTold, Took}
use Rattle.xet_error.specs.declared.error.FileReconstructionError.{FileReconstructionError}
use Rattle.xet_error.specs.declared.error.FileReconstructionError.TheVariants as error
use Rattle.xet_events.specs.declared.event.Event.{Event}
use Rattle.xet_events.specs.Allowed.{IsMissing}
use Rattle.xet_events.specs.Events.{Task, planned, size, taken_in, written}
use Rattle.xet_history.specs.Laws.{IsPrefix}
use Rattle.xet_writers.specs.Calls.{SinkCause, closed_by}
use Rattle.xet_writers.specs.Queues.{QueuedTerm, ready, ready_bytes}
use Rattle.xet_writers.specs.Sequential.{Sequential, WindowCall, Wrote, WroteAll, told_of}
use Rattle.xet_writers.proofs.CallerLemmas.{open_writer}
use Rattle.xet_ties.specs.declared.lane_step.LaneStep.{LaneStep}
use Rattle.xet_ties.specs.Lanes.{Ask}
use Rattle.xet_ties.specs.Saids.{has_bytes}
use Rattle.xet_ties.specs.Setup.{RunTold, Setup}
use Rattle.xet_ties.specs.PartCalls.{total}
use Rattle.xet_ties.specs.Recordings.{Place, Recorded, places_of, wrote_of}
use Rattle.xet_ties.specs.Rounds.{blocks_at, got_of}
use Rattle.xet_ties.specs.Ties.{Slack, Ties, has_one}
use Rattle.xet_ties.proofs.CallerLemmas.{grew_none, some_sum, tasks_sized}
use Rattle.xet_lane.specs.declared.joined.Joined.{Joined}
use Rattle.xet_lane.specs.Fetches.{ask_of}
use Rattle.xet_lane.specs.Ends.{ended}
use Rattle.xet_lane.proofs.CallerLemmas.{no_error}
use Rattle.xet_lanes.specs.Rounds.{LanesDrew, RoundTold}
use Rattle.xet_leader.specs.Advances.{advanced}
use Rattle.xet_leader.specs.declared.missing_blocks.BlockAt.{BlockAt}
use Rattle.xet_stages.specs.declared.outcomes.Outcome.{Outcome}
use Rattle.xet_leader.specs.Expiries.{spends}
use Rattle.xet_leader.specs.FetchLists.{Each}
use Rattle.xet_turns.specs.RoundCalls.{FetchRefused, FetchedBeside, IsPrepared, RoundLeads, RoundStops, RoundTurn, fetched_led, to_settle}
use Rattle.xet_leader.specs.Led.{IsLed, Led}
use Rattle.xet_leader.specs.Offering.{AreServed, due_of}
use Rattle.xet_stages.specs.Outcomes.{KeepFails, OutcomeFails, OutcomeStops, TookOutcome, is_spent, join_error, join_events, plans_after, plans_kept}
use Rattle.xet_stages.specs.RoundRecords.{lanes_events, lanes_of, window_events}
use Rattle.xet_turns.specs.Rounds.{AreLedAsks, RoundLeft}
use Rattle.xet_stages.specs.RunWindows.{IsWindow}
use Rattle.xet_leader.specs.Steady.{IsFailing, IsGoing, IsIdle, IsSteady, Loose, Moment}
use Rattle.xet_leader.proofs.CallerLemmas.{memory_fails, led_more, tells_more_heard}
use Rattle.xet_turns.proofs.LaneEvents.{blocks_same, join_plans_none, round_still, still_all}
use Rattle.xet_turns.proofs.LastSteps.{calm_whole, lanes_calm, lanes_well}
use Rattle.xet_turns.proofs.RoundAsks.{are_led_asks}
use Rattle.xet_turns.proofs.RoundLeads.{loose_after, round_goes, round_memory, round_planned, round_spent}
use Rattle.xet_turns.proofs.RoundsLeft.{round_left}
use Rattle.xet_turns.proofs.RoundMeasures.{round_less}
use Rattle.xet_turns.proofs.RoundStops.{round_stops, sink_since}
use Rattle.xet_turns.proofs.ServedStay.{IsPassed, FetchedBy, lanes_missing, round_fetched, served_places}
use Rattle.xet_turns.proofs.WindowTies.{window_tied}
use Rattle.xet_turns.proofs.WindowWriters.{HoldsPieces, holds_pieces}
use Rattle.xet_leader.proofs.CallerLemmas.{are_writes, planned_same, sizes_sum}
use Rattle.xet_leader.specs.Looks.{polls_for}
use Rattle.xet_leader.specs.Fetching.{AreFetches}
use Rattle.xet_lane.specs.declared.lane.Fetch.{Fetch}
use Rattle.xet_leader.specs.declared.leader.LedPlan.{LedPlan}

-- ---- the window's bytes

total_sizes : (ts : List Task) → total (map size ts) ≡ sum_by size ts
total_sizes [] = refl
total_sizes (t ∷ ts) = let r = total_sizes ts in let c = sum_by-cons size t ts in omega (arith, r, c)

window_total : (g : Setup) (b : RunTold) (es : List Event) (sl : Slack) (l : Led) (lengths : List ℕ)
    (pieces : List (List ℕ)) → IsWindow g b es sl l lengths pieces → length (concat pieces) ≡ total lengths
window_total g b es sl l lengths pieces w = sym (tasks_sized g sl.heard sl.looks
    (filter has_bytes w.tasks) pieces w.tested) ∙ some_sum w.tasks ∙ sym (total_sizes w.tasks)
    ∙ ap total (sym w.lengths_are)

-- the bytes of a window that the sink took
record TookSome (before after : SinkTold) (window : List ℕ) (wrote : Result ℕ FileReconstructionError) : Type 0 where
  bytes : List ℕ
  front : IsPrefix bytes window
  took : Took before.took after.took bytes
  whole : (k : ℕ) → wrote ≡ Ok k → length bytes ≡ length window

took_some : (before after : SinkTold) (window : List ℕ) (wrote : Result ℕ FileReconstructionError)
    → WindowCall before after window wrote → TookSome before after window wrote
took_some before after window (Ok k) c = record {
  bytes = window;
  front = record { rest = []; joined = append-nil window };
  took = c.took.0;
  whole = λ k e. refl;
}
took_some before after window (Err x) c =
    let p = c.prefix in
    record {
      bytes = take p.count window;
      front = record {
        rest = drop p.count window;
        joined = take-append-drop p.count window;
      };
      took = p.took;
      whole = λ k e. absurd (cc);
    }

window_cause : (before after : SinkTold) (window : List ℕ) (wrote : Result ℕ FileReconstructionError)
    (x : FileReconstructionError) → WindowCall before after window wrote → wrote ≡ Err x
    → SinkCause before.faults after.faults x
window_cause before after window wrote x c e = (subst (WindowCall before after window) e c).cause

window_unfailed : (before after : SinkTold) (window : List ℕ) (wrote : Result ℕ FileReconstructionError) (k : ℕ)
    → WindowCall before after window wrote → wrote ≡ Ok k → after.faults ≡ before.faults
window_unfailed before after window wrote k c e = (subst (WindowCall before after window) e c).unfailed

-- ---- the writer

record OpenWriter {S : Type 0} (told : S → SinkTold) (m : Moment) (pieces : List (List ℕ)) (w : Sequential S)
    : Type 0 where
  closed : closed_by (told_of w) ≡ None
  sink_is : told w.sink ≡ m.told.sink
  bytes_are : ready_bytes w.queue ≡ concat pieces
  all_ready : length (ready w.queue) ≡ length w.queue
  kept : w.kept ≡ None
  finished : w.finished ≡ false
  expected : w.expected ≡ written m.events + length (concat pieces)
  delivered : w.delivered ≡ written m.events

open_held : {S : Type 0} (told : S → SinkTold) (m : Moment) (pieces : List (List ℕ)) (v w : Sequential S)
    → IsIdle told m v → HoldsPieces v w pieces → OpenWriter told m pieces w
open_held {S = S} told m pieces v w i h =
    let kept = ap (λ (x : Sequential S). x.kept) h.left ∙ i.kept in
    let finished = ap (λ (x : Sequential S). x.finished) h.left ∙ i.open_still in
    record {
      closed = open_writer w kept finished;
      sink_is = ap (λ (x : Sequential S). told x.sink) h.left ∙ sym i.sink;
      bytes_are = h.bytes ∙ ap (λ (q : List QueuedTerm). ready_bytes q ++ concat pieces) i.queue;
      all_ready = h.all_ready;
      kept = kept;
      finished = finished;
      expected = ap (λ (x : Sequential S). x.expected) h.left ∙ ap (λ (n : ℕ). n + length (concat pieces)) i.expected;
      delivered = ap (λ (x : Sequential S). x.delivered) h.left ∙ i.delivered;
    }

wrote_whole : {S : Type 0} (told : S → SinkTold) (v w : Sequential S) (wrote : Result ℕ FileReconstructionError)
    (k : ℕ) → wrote ≡ Ok k → Wrote told v w wrote → WroteAll told v w k
wrote_whole told v w wrote k e h = (subst (Wrote told v w) e h).whole

-- it is idle where all was written
idle_after : {S : Type 0} (told : S → SinkTold) (m n : Moment) (pieces : List (List ℕ)) (v w : Sequential S) (k : ℕ)
    → OpenWriter told m pieces v → WroteAll told v w k → n.told.sink ≡ told w.sink
    → written n.events ≡ written m.events + length (concat pieces) → IsIdle told n w
idle_after told m n pieces v w k o h sink more =
    let d = h.passed.delivered in
    let e = o.delivered in
    let all : concat (take (length (ready v.queue)) (ready v.queue)) ≡ concat pieces =
    ap concat (take_all (length (ready v.queue)) (ready v.queue) (omega arith)) ∙ o.bytes_are in
    let long = ap length all in
    record {
      sink = sink;
      queue = h.passed.queue ∙ ap (λ (i : ℕ). drop i v.queue) o.all_ready ∙ drop-length v.queue;
      kept = h.kept ∙ o.kept;
      open_still = h.passed.finished ∙ o.finished;
      expected = h.passed.expected ∙ o.expected ∙ sym more;
      delivered = omega (arith, d, e, long, more);
    }

-- ---- what the join told

record JoinTold {S : Type 0} (told : S → SinkTold) (g : Setup) (b : RunTold) (m : Moment) (l : Led) (lengths : List ℕ)
    (pieces : List (List ℕ)) (a z : RoundTold S) (j : Joined) (sl : Slack) (fs : List Ask) : Type 0 where
  writer : OpenWriter told m pieces a.writer
  count : ℕ
  asks : AreLedAsks m.events sl.pending l.plans fs
  drew : LanesDrew fs m.told.clients z.clients (map ended j.ends.items)
  ties : Ties g b (record m.told { sink = told z.writer.sink }) m.events None (record sl { ahead = count })
  led : IsLed g b m.events (record sl { ahead = count }) [] l
  left : RoundLeft g b (record m.told { sink = told z.writer.sink }) m.events
      (record sl { ahead = count }) z.clients fs (lanes_of j.ends.items) l
  whole : (k : ℕ) → j.wrote ≡ Ok k → count ≡ total lengths
  cause : (x : FileReconstructionError) → j.wrote ≡ Err x → SinkCause b.sink.faults (told z.writer.sink).faults x
  unfailed : (k : ℕ) → j.wrote ≡ Ok k → (told z.writer.sink).faults ≡ b.sink.faults

-- where there are fetches the signal was asked
polled_once : (ls : List LedPlan) (n : ℕ) (cs : List BlockAt) (fs : List Fetch) {spare : ℕ} → spare ≡ polls_for cs
    → AreFetches ls n cs fs → 0 < length (map ask_of fs) → 1 ≤ spare
polled_once ls n [] [] e a h = absurd (omega (arith, h))
polled_once ls n [] (f ∷ fs) e a h = absurd a
polled_once ls n (c ∷ cs) fs e a h = omega (arith, e)

join_told : {S : Type 0} (told : S → SinkTold) (g : Setup) (b : RunTold) (m : Moment) (l : Led) (cs : List BlockAt)
    (lengths : List ℕ) (a z : RoundTold S) (j : Joined) → m.told.clients ≡ a.clients
    → (p : IsPrepared told g b m l cs lengths a.writer) → (f : FetchedBeside told l cs a z j)
    → JoinTold told g b m l lengths p.pieces a z j p.going.slack (map ask_of f.asked)
join_told told g b m l cs lengths a z j same p f =
    let s = p.going in
    let sl = s.slack in
    let fs = map ask_of f.asked in
    let to = told z.writer.sink in
    let i = p.writer.idle in
    let none : length (ready p.writer.before.queue) ≡ length p.writer.before.queue =
    ap (λ (q : List QueuedTerm). length (ready q)) i.queue
    ∙ sym (ap (λ (q : List QueuedTerm). length q) i.queue) in
    let o = open_held told m p.pieces p.writer.before a.writer i
    (holds_pieces p.writer.before a.writer p.pieces none p.writer.now) in
    let call : WindowCall m.told.sink to (concat p.pieces) j.wrote =
    subst (λ (x : SinkTold). WindowCall x to (concat p.pieces) j.wrote) o.sink_is
    (subst (λ (x : List ℕ). WindowCall (told a.writer.sink) to x j.wrote) o.bytes_are (f.window o.closed)) in
    let some = took_some m.told.sink to (concat p.pieces) j.wrote call in
    let now : Slack = record sl { ahead = length some.bytes } in
    let ties = window_tied g b m _ l s lengths p.pieces to some.bytes p.window some.front some.took call.faults
    call.link in
    let led = led_more g b m.events sl now [] l (tells_more_heard sl now (grew_none sl.heard) refl) s.led in
    let asks = are_led_asks g b m l cs l.fetches f.asked s p.listed f.made in
    let drew : LanesDrew fs m.told.clients z.clients (map ended j.ends.items) =
    subst (λ (bs : List ClientTold). LanesDrew fs bs z.clients (map ended j.ends.items)) (sym same) f.drew in
    record {
      writer = o;
      count = length some.bytes;
      asks = asks;
      drew = drew;
      ties = ties;
      led = led;
      left = round_left g b (record m.told { sink = to }) m.events now z.clients fs
          (lanes_of j.ends.items) l asks drew.drew s.settled.hidden s.settled.late
          (polled_once l.plans l.fetches cs f.asked s.settled.spare f.made) ties led;
      whole = λ k e. some.whole k e ∙ window_total g b m.events sl l lengths p.pieces p.window;
      cause = λ x e. sink_since b m.told to.faults x s.unfailed
          (window_cause m.told.sink to (concat p.pieces) j.wrote x call e);
      unfailed = λ k e. window_unfailed m.told.sink to (concat p.pieces) j.wrote k call e ∙ s.unfailed;
    }

-- ---- it is to stop

-- the moment after it
abbrev after_round : {S : Type 0} → (S → SinkTold) → Moment → RoundTold S → List Event → Moment
after_round told m z fs = record {
  told = record m.told { clients = z.clients; sink = told z.writer.sink };
  events = fs;
}

recorded_all : (es all : List Event) (e : FileReconstructionError) → e ≡ error.OutOfMemory
    → Recorded {A = Unit {0}} es (es ++ all) all (Err e)
recorded_all es all e h = record {
  all = tt;
  some = (
    length all,
    ap (λ (x : List Event). es ++ x) (sym (take_all (length all) all (omega arith))),
  );
  memory = h;
}

memory_stops : {S : Type 0} (told : S → SinkTold) (g : Setup) (b : RunTold) (m : Moment) (l : Led) (cs : List BlockAt)
    (lengths : List ℕ) (a z : RoundTold S) (j : Joined) (fs : List Event) (e : FileReconstructionError)
    → m.told.clients ≡ a.clients → IsPrepared told g b m l cs lengths a.writer → FetchedBeside told l cs a z j
    → Recorded {A = Unit {0}} m.events fs (join_events j lengths) (Err e) → IsFailing g b (after_round told m z fs) e
memory_stops told g b m l cs lengths a z j fs e same p f r =
    let t = join_told told g b m l cs lengths a z j same p f in
    by (record p.going.slack { ahead = t.count }) t.left t.whole j.wrote refl r
  where
    at : RunTold
    at = record m.told { sink = told z.writer.sink }

    ls : List (List LaneStep)
    ls = lanes_of j.ends.items

    by : (sl : Slack) → RoundLeft g b at m.events sl z.clients (map ask_of f.asked) ls l
        → ((k : ℕ) → j.wrote ≡ Ok k → sl.ahead ≡ total lengths) → (o : Result ℕ FileReconstructionError) → j.wrote ≡ o
        → Recorded {A = Unit {0}} m.events fs (lanes_events ls ++ window_events o lengths) (Err e)
        → IsFailing g b (after_round told m z fs) e
    by sl left whole (Ok k) is rec = let w = whole k is in
        round_memory g b at m.events fs sl z.clients (map ask_of f.asked) ls l lengths e left rec
        (omega (arith, w)) p.going.cache_tells
    by sl left whole (Err x) is rec = round_memory g b at m.events fs sl z.clients
        (map ask_of f.asked) ls l [] e left rec (omega arith) p.going.cache_tells

stopped : {S : Type 0} (told : S → SinkTold) (g : Setup) (b : RunTold) (m : Moment) (l : Led) (cs : List BlockAt)
    (lengths : List ℕ) (a z : RoundTold S) (j : Joined) (tries : ℕ) (fs : List Event) (e : FileReconstructionError)
    → g.tries ≡ tries → m.told.clients ≡ a.clients → IsPrepared told g b m l cs lengths a.writer
    → FetchedBeside told l cs a z j
    → OutcomeStops tries lengths j m.events fs (fetched_led cs l) e → IsFailing g b (after_round told m z fs) e
stopped told g b m l cs lengths a z j tries fs e few same p f h =
    let t = join_told told g b m l cs lengths a z j same p f in
    let at : RunTold = record m.told { sink = told z.writer.sink } in
    let sl : Slack = record p.going.slack { ahead = t.count } in
    let ls = lanes_of j.ends.items in
    let ends = map ended j.ends.items in
    subst (λ (x : List Event). IsFailing g b (after_round told m z x) e) (sym h.recorded)
    (⊎_elim
    (λ (x : join_error j ≡ Some e). round_stops g b at m.events sl z.clients
    (map ask_of f.asked) ends l lengths j.wrote e t.asks t.drew t.left t.ties t.led
    p.going.settled.calm x t.whole t.cause
    t.unfailed p.going.calm p.going.cache_tells)
    (λ (x : (join_error j ≡ None) × KeepFails tries j.ends.items (fetched_led cs l) e).
    let n = no_error j.wrote ends x.0 in
    ⊎_elim
    (λ (y : e ≡ error.OutOfMemory). memory_stops told g b m l cs lengths a z j
    (m.events ++ join_events j lengths) e same p f (recorded_all m.events (join_events j lengths) e y))
    (λ (y : (e ≡ error.UrlExpired) × (is_spent tries j.ends.items l.plans ≡ true)).
    let some : spends g.tries (flat_map places_of ls) (plans_kept ls l.plans) ≡ true =
    ap (λ (i : ℕ). spends i (flat_map places_of ls) (plans_kept ls l.plans)) few ∙ y.1 in
    let spent = round_spent g b at m.events sl z.clients (map ask_of f.asked) ls l lengths t.left
    (lanes_well ends t.drew.last n.1) some (t.whole n.0.0 n.0.1)
    (calm_whole sl.calm ls (lanes_calm ends t.drew.last n.1) ∙ p.going.settled.calm) (t.unfailed n.0.0 n.0.1)
    p.going.calm p.going.cache_tells in
    subst (λ (i : FileReconstructionError). IsFailing g b
    (after_round told m z (m.events ++ join_events j lengths)) i) (sym y.0)
    (subst (λ (o : Result ℕ FileReconstructionError). IsFailing g b
    (after_round told m z (m.events ++ (lanes_events ls ++ window_events o lengths))) error.UrlExpired)
    (sym n.0.1) spent))
    x.1)
    h.stops)

refused : {S : Type 0} (told : S → SinkTold) (g : Setup) (b : RunTold) (m : Moment) (l : Led) (cs : List BlockAt)
    (lengths : List ℕ) (a z : RoundTold S) (fs : List Event) (e : FileReconstructionError)
    → m.told.clients ≡ a.clients → IsPrepared told g b m l cs lengths a.writer → fs ≡ m.events → FetchRefused a z e
    → IsFailing g b (after_round told m z fs) e
refused {S = S} told g b m l cs lengths a z fs e same p events h =
    let i = p.writer.idle in
    let none : length (ready p.writer.before.queue) ≡ length p.writer.before.queue =
    ap (λ (q : List QueuedTerm). length (ready q)) i.queue
    ∙ sym (ap (λ (q : List QueuedTerm). length q) i.queue) in
    let o = open_held told m p.pieces p.writer.before a.writer i
    (holds_pieces p.writer.before a.writer p.pieces none p.writer.now) in
    let F : List ClientTold → SinkTold → List Event → Type 0 =
    λ c s x. IsFailing g b (record { told = record m.told { clients = c; sink = s }; events = x }) e in
    let first : F m.told.clients m.told.sink m.events = memory_fails g b m _ l e h.memory p.going in
    let one : F a.clients m.told.sink m.events = subst
    (λ (c : List ClientTold). F c m.told.sink m.events) same first in
    let two : F a.clients (told a.writer.sink) m.events =
    subst (λ (s : SinkTold). F a.clients s m.events) (sym o.sink_is) one in
    let three : F z.clients (told z.writer.sink) m.events =
    subst (λ (r : RoundTold S). F r.clients (told r.writer.sink) m.events) (sym h.same) two in
    subst (λ (x : List Event). F z.clients (told z.writer.sink) x) (sym events) three

-- ---- it goes on

led_fetches : (g : Setup) (b : RunTold) (es : List Event) (sl : Slack) (stale : List ℕ) (l : Led) (n : ℕ)
    → IsLed g b es sl stale l → IsLed g b es sl stale (record l { fetches = n })
led_fetches g b es sl stale l n a =
    let p = a.plans in
    let c = a.counted in
    record {
      running = a.running;
      some = a.some;
      tries = a.tries;
      stale_are = a.stale_are;
      under = a.under;
      manager = a.manager;
      plans = record { each = p.each; follow = p.follow; numbered = p.numbered; last = p.last; first = p.first };
      counted = record {
        planned_are = c.planned_are;
        planned_fits = c.planned_fits;
        admitted_are = c.admitted_are;
        finished_within = c.finished_within;
        admitted_within = c.admitted_within;
        written_are = c.written_are;
      };
    }

going_fetches : (g : Setup) (b : RunTold) (m : Moment) (o : Loose) (l : Led) (n : ℕ) → IsGoing g b m o l
    → IsGoing g b m o (record l { fetches = n })
going_fetches g b m o l n s = record {
  slack = s.slack;
  ties = s.ties;
  settled = s.settled;
  led = led_fetches g b m.events s.slack o.stale l n s.led;
  calm = s.calm;
  unfailed = s.unfailed;
  cache_tells = s.cache_tells;
}

-- what is written after it
written_after : (es : List Event) (ls : List (List LaneStep)) (ts : List Task)
    → written (es ++ (lanes_events ls ++ wrote_of (map size ts))) ≡ written es + sum_by size ts
written_after es ls ts =
    let F = lanes_events ls in
    let W = wrote_of (map size ts) in
    let a : written (es ++ F) ≡ written es = (still_all es F (round_still ls)).written_are in
    let whole : written (es ++ (F ++ W)) ≡ written ((es ++ F) ++ W) = ap written (sym (append_assoc es F W)) in
    let parts : written ((es ++ F) ++ W) ≡ written (es ++ F) + sum_by taken_in W =
    sum_by-append taken_in (es ++ F) W in
    let c = sizes_sum ts in
    omega (arith, a, whole, parts, c)

planned_after : (es : List Event) (ls : List (List LaneStep)) (ns : List ℕ)
    → planned (es ++ (lanes_events ls ++ wrote_of ns)) ≡ planned es
planned_after es ls ns = ap planned (sym (append_assoc es (lanes_events ls) (wrote_of ns)))
    ∙ planned_same (es ++ lanes_events ls) (wrote_of ns) (are_writes ns) ∙ round_planned es ls

went : {S : Type 0} (told : S → SinkTold) (g : Setup) (b : RunTold) (m : Moment) (l k : Led) (cs : List BlockAt)
    (lengths : List ℕ) (a z : RoundTold S) (j : Joined) (tries : ℕ) (fs : List Event) (o : Outcome) → g.tries ≡ tries
    → m.told.clients ≡ a.clients → IsPrepared told g b m l cs lengths a.writer → FetchedBeside told l cs a z j
    → TookOutcome tries lengths j m.events fs (fetched_led cs l) k o
    → IsSteady told g b (after_round told m z fs) (to_settle fs o) k z.writer ×
    AreServed fs k.plans o.served.items
went told g b m l k cs lengths a z j tries fs o few same p f h =
    let t = join_told told g b m l cs lengths a z j same p f in
    let s = p.going in
    let es = m.events in
    let w = p.window in
    let ts = w.tasks in
    let at : RunTold = record m.told { sink = told z.writer.sink } in
    let sl : Slack = record s.slack { ahead = t.count } in
    let ls = lanes_of j.ends.items in
    let ends = map ended j.ends.items in
    let n = no_error j.wrote ends h.none in
    let kept = h.kept in
    let tries_left : spends g.tries (flat_map places_of ls) (plans_kept ls l.plans) ≡ false =
    ap (λ (i : ℕ). spends i (flat_map places_of ls) (plans_kept ls l.plans)) few ∙ kept.left in
    let go = round_goes g b at es sl z.clients (map ask_of f.asked) ls l ts w.rest t.left
    (lanes_well ends t.drew.last n.1) tries_left w.next w.within
    (t.whole n.0.0 n.0.1 ∙ ap total w.lengths_are) s.settled.lost s.settled.step
    (calm_whole sl.calm ls (lanes_calm ends t.drew.last n.1) ∙ s.settled.calm) s.calm
    (t.unfailed n.0.0 n.0.1) s.cache_tells in
    let all = lanes_events ls ++ wrote_of (map size ts) in
    let events : fs ≡ es ++ all = h.recorded ∙ ap (λ (r : Result ℕ FileReconstructionError). es ++
    (lanes_events ls ++ window_events r lengths)) n.0.1
    ∙ ap (λ (ns : List ℕ). es ++ (lanes_events ls ++ wrote_of ns)) w.lengths_are in
    let many : length lengths ≡ length ts = ap (λ (ns : List ℕ). length ns) w.lengths_are ∙ length-map ts size in
    let count : ℕ = (fetched_led cs l).fetches in
    let k0 : Led = advanced (length ts) (record l { plans = plans_after ls l.plans }) in
    let k1 : Led = record k0 { fetches = count } in
    let led_is : k ≡ k1 = kept.led ∙ ap (λ (i : ℕ). advanced i
    (record (fetched_led cs l) { plans = plans_after ls l.plans })) many in
    let due_now : due_of (es ++ all) o.served.items ≡ count_by has_one (blocks_at es (flat_map got_of ls)) =
    ap (λ (ds : List Place). count_by has_one (blocks_at (es ++ all) ds)) kept.served_are
    ∙ ap (count_by has_one) (blocks_same es all (flat_map got_of ls) (join_plans_none ls (map size ts))) in
    let zero_due = s.settled.due in
    let due_is : sl.due + count_by has_one (blocks_at es (flat_map got_of ls)) ≡ due_of (es ++ all) o.served.items =
    (let d = due_now in omega (arith, zero_due, d)) in
    let stale_is = sym kept.stale_are in
    let loose_is : loose_after es ls sl.due ≡ to_settle (es ++ all) o =
    (λ i. record { pending = []; due = due_is i; stale = stale_is i; polls = 0 }) in
    let going : IsGoing g b (after_round told m z (es ++ all)) (to_settle (es ++ all) o) k1 =
    subst (λ (u : Loose). IsGoing g b (after_round told m z (es ++ all)) u k1) loose_is
    (going_fetches g b (after_round told m z (es ++ all)) (loose_after es ls sl.due) k0 count go) in
    let size_is : sum_by size ts ≡ length (concat p.pieces) =
    sym (total_sizes ts) ∙ ap total (sym w.lengths_are)
    ∙ sym (window_total g b es s.slack l lengths p.pieces w) in
    let more = written_after es ls ts in
    let idle : IsIdle told (after_round told m z (es ++ all)) z.writer =
    idle_after told m (after_round told m z (es ++ all)) p.pieces a.writer z.writer n.0.0 t.writer
    (wrote_whole told a.writer z.writer j.wrote n.0.0 n.0.1 (f.wrote.open_ t.writer.closed)) refl
    (more ∙ ap (λ (i : ℕ). written es + i) size_is) in
    let fin = going.led.counted.finished_within in
    let fits = s.led.counted.planned_fits in
    let within = w.within in
    let below = s.led.counted.admitted_within in
    let passed : IsPassed es (es ++ all) l k1 ts w.rest = record {
      next = w.next;
      within = w.within;
      kept = w.kept;
      finished_is = omega (arith, within, below, fits);
      admitted_is = refl;
      planned_is = planned_after es ls (map size ts);
    } in
    let missing = lanes_missing es (map ask_of f.asked) at.clients t.left.slack.heard ls t.asks.missing
    (t.left.after.found t.asks.own) in
    let fetched = round_fetched es (wrote_of (map size ts)) ls in
    let served = served_places g b es (es ++ all) s.slack going.slack [] o.stale.items l k1 ts w.rest o.served.items
    s.led going.led passed
    (subst (Each (λ (c : Place). IsMissing es c.0 c.1)) (sym kept.served_are) missing)
    (subst (Each (FetchedBy (es ++ all))) (sym kept.served_are) fetched) in (
      subst (λ (x : List Event). IsSteady told g b (after_round told m z x) (to_settle x o) k z.writer) (sym events)
          (subst (λ (y : Led). IsSteady told g b (after_round told m z (es ++ all))
          (to_settle (es ++ all) o) y z.writer) (sym led_is) (record { going = going; writer = idle })),
      subst (λ (x : List Event). AreServed x k.plans o.served.items) (sym events)
          (subst (λ (y : Led). AreServed (es ++ all) y.plans o.served.items) (sym led_is) served),
    )

-- ---- both

pub round_leads : {S : Type 0} (told : S → SinkTold) (tries : ℕ) (cs : List BlockAt) (lengths : List ℕ)
    (a z : RoundTold S) (es fs : List Event) (l k : Led) (answer : Result Outcome FileReconstructionError)
    → RoundTurn told tries cs lengths a z es fs l k answer → RoundLeads told tries cs lengths a z es fs l k answer
round_leads told tries cs lengths a z es fs l k (Ok o) t g m few same at = record {
  ok = λ b p. went told g b m l k cs lengths a z t.ok.joined tries fs o few same p t.ok.beside
      (subst (λ (x : List Event). TookOutcome tries lengths t.ok.joined x fs (fetched_led cs l) k o)
      (sym at) t.ok.took);
  err = λ b p. tt;
  less = λ b p.
      let j = t.ok.joined in
      let f = t.ok.beside in
      let took : TookOutcome tries lengths j m.events fs (fetched_led cs l) k o =
      subst (λ (x : List Event). TookOutcome tries lengths j x fs (fetched_led cs l) k o) (sym at) t.ok.took in
      let r = went told g b m l k cs lengths a z j tries fs o few same p f took in
      round_less told g b m l k cs lengths a z j tries fs o p f took
      (λ p k. let a = r.0.going.ties.tried.at_most p k in omega (arith, a));
}
round_leads told tries cs lengths a z es fs l k (Err e) t g m few same at = record {
  ok = λ b p. tt;
  err = λ b p.
      ⊎_elim
      (λ (x : (fs ≡ es) × FetchRefused a z e). refused told g b m l cs lengths a z fs e same p (x.0 ∙ sym at) x.1)
      (λ (x : RoundStops told tries cs lengths a z es fs l e).
      let f : OutcomeFails tries lengths x.joined m.events fs (fetched_led cs l) e =
      subst (λ (v : List Event). OutcomeFails tries lengths x.joined v fs (fetched_led cs l) e)
      (sym at) x.fails in
      ⊎_elim
      (λ (y : Recorded {A = Unit {0}} m.events fs (join_events x.joined lengths) (Err e)). memory_stops told g b m l
      cs lengths a z x.joined fs e same p x.beside y)
      (λ (y : OutcomeStops tries lengths x.joined m.events fs (fetched_led cs l) e). stopped told g b m l cs lengths a
      z x.joined tries fs e few same p x.beside y)
      f)
      t.err;
  less = λ b p. tt;
}

-- the relation, where what came of the join was taken in or not
pub turn_done : {S : Type 0} (told : S → SinkTold) (tries : ℕ) (cs : List BlockAt) (lengths : List ℕ)
    (a z : RoundTold S) (es fs : List Event) (l n k : Led) (j : Joined)
    (answer : Result Outcome FileReconstructionError) → FetchedBeside told l cs a z j → n ≡ fetched_led cs l
    → IfOk answer (TookOutcome tries lengths j es fs n k)
    → IfErr answer (OutcomeFails tries lengths j es fs n) → RoundTurn told tries cs lengths a z es fs l k answer
turn_done told tries cs lengths a z es fs l n k j (Ok o) f same ok err =
    record {
      ok = record {
        joined = j;
        beside = f;
        took = subst (λ (x : Led). TookOutcome tries lengths j es fs x k o) same ok;
      };
      err = tt;
    }
turn_done told tries cs lengths a z es fs l n k j (Err e) f same ok err =
    record {
      ok = tt;
      err = inr (record {
        joined = j;
        beside = f;
        fails = subst (λ (x : Led). OutcomeFails tries lengths j es fs x e) same err;
      });
    }

-- the relation, where memory was wanting for the fetches
pub turn_refused : {S : Type 0} (told : S → SinkTold) (tries : ℕ) (cs : List BlockAt) (lengths : List ℕ)
    (a z : RoundTold S) (es : List Event) (l k : Led) (e : FileReconstructionError) → FetchRefused a z e
    → RoundTurn told tries cs lengths a z es es l k (Err e)
turn_refused told tries cs lengths a z es l k e f = record { ok = tt; err = inl (refl, f) }
