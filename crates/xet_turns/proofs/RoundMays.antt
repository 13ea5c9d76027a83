-- What a join did may be recorded.
use Rattle.std.proofs.Common.{ℕ, ◌<◌, List, [], ◌∷◌, ◌++◌, length, take, drop, sym, subst, ◌∙◌, ap, arith, Ok, Err}
use Rattle.std.specs.Prelude.{Result, map}
use Rattle.std.specs.List.{sum_by}
use Rattle.xet_base.specs.declared.merklehash.MerkleHash.{MerkleHash}
use Rattle.xet_outside.specs.Told.{ClientTold, Query, SinkTold}
use Rattle.xet_error.specs.declared.error.FileReconstructionError.{FileReconstructionError}
use Rattle.xet_events.specs.declared.event.Event.{Event}
use Rattle.xet_events.specs.Allowed.{AllowedAfter}
use Rattle.xet_events.specs.Events.{Task, size}
use Rattle.xet_writers.specs.Sequential.{Sequential}
use Rattle.xet_ties.specs.declared.lane_step.LaneStep.{LaneStep}
use Rattle.xet_ties.specs.Lanes.{DrewApart}
use Rattle.xet_ties.specs.Setup.{RunTold, Setup}
use Rattle.xet_ties.specs.Recordings.{wrote_of}
use Rattle.xet_ties.specs.Windows.{IsAt}
use Rattle.xet_ties.specs.Ties.{FirstAsked}
use Rattle.xet_ties.proofs.CallerLemmas.{round_allowed, wrote_allowed}
use Rattle.xet_lane.specs.declared.joined.Joined.{Joined}
use Rattle.xet_lane.specs.declared.lane.Fetch.{Fetch}
use Rattle.xet_lane.specs.Fetches.{ask_of}
use Rattle.xet_lanes.specs.Rounds.{RoundTold}
use Rattle.xet_leader.specs.declared.missing_blocks.BlockAt.{BlockAt}
use Rattle.xet_leader.specs.FetchLists.{Each, IsFetchList}
use Rattle.xet_leader.specs.Fetching.{AreFetches}
use Rattle.xet_turns.specs.RoundCalls.{CanRound, FetchedBeside}
use Rattle.xet_leader.specs.Led.{Led}
use Rattle.xet_leader.specs.Looks.{CanRequest, to_round}
use Rattle.xet_stages.specs.RoundRecords.{RoundMayBe, lanes_events, lanes_of, window_events}
use Rattle.xet_stages.specs.RunWindows.{IsWindow}
use Rattle.xet_leader.specs.Steady.{IsGoing, Moment}
use Rattle.xet_leader.proofs.CallerLemmas.{can_request, is_at}
use Rattle.xet_turns.proofs.LaneEvents.{are_kept_more, round_still, still_all}
use Rattle.xet_turns.proofs.RoundAsks.{are_led_asks}

-- a run is lent a connection
some_asked : (f : MerkleHash) (es : List Event) (lost : List Query) (bs ns : List ClientTold)
    → FirstAsked f es lost bs ns → 0 < length ns
some_asked f es lost bs [] h = absurd (none bs h)
  where
    none : (cs : List ClientTold) → FirstAsked f es lost cs [] → ⊥
    none [] h = h
    none (c ∷ cs) h = h
some_asked f es lost bs (n ∷ ns) h = omega arith

pub some_clients : {S : Type 0} (told : S → SinkTold) (cs : List ClientTold) (es : List Event) (l : Led)
    (places : List BlockAt) (lengths : List ℕ) (w : Sequential S) → CanRound told cs es l places lengths w
    → 0 < length cs
some_clients told cs es l places lengths w c =
    let t = c.is.going.ties in
    subst (λ (xs : List ClientTold). 0 < length xs) c.clients_are
    (some_asked c.setup.file c.moment.events c.is.going.slack.lost c.start.clients c.moment.told.clients t.asked)

-- each block can be requested
pub can_fetch : {S : Type 0} (told : S → SinkTold) (cs : List ClientTold) (es : List Event) (l : Led)
    (places : List BlockAt) (lengths : List ℕ) (w : Sequential S) → CanRound told cs es l places lengths w
    → Each (CanRequest l.plans) places
can_fetch told cs es l places lengths w c = can_request c.setup c.start c.moment.events c.is.going.slack [] l
    c.is.going.led places c.is.listed.missing

may_by : (g : Setup) (b : RunTold) (m : Moment) (l : Led) (cs : List BlockAt) (lengths : List ℕ)
    (pieces : List (List ℕ)) (fs : List Fetch) (bs ns : List ClientTold) (ls : List (List LaneStep))
    (wrote : Result ℕ FileReconstructionError) → (s : IsGoing g b m (to_round m.events cs) l)
    → IsFetchList m.events l.finished cs
    → IsWindow g b m.events s.slack l lengths pieces → AreFetches l.plans l.fetches cs fs
    → DrewApart (map ask_of fs) bs ns ls → RoundMayBe m.events ls (window_events wrote lengths)
may_by g b m l cs lengths pieces fs bs ns ls wrote s list w made d =
    let es = m.events in
    let asks = are_led_asks g b m l cs l.fetches fs s list made in
    let r = round_allowed es (map ask_of fs) bs ns ls d s.led.running asks.missing asks.once in
    let now = still_all es (lanes_events ls) (round_still ls) in
    let old = is_at g b es s.slack [] l s.led in
    let a = now.admitted_are in
    let within = w.within in
    let counted = s.led.counted.admitted_are in
    let first = old.admitted in
    let at : IsAt (es ++ lanes_events ls) l.finished = record {
      admitted = omega (arith, first, a);
      written_are = now.written_are ∙ old.written_are
          ∙ ap (λ (ts : List Task). sum_by size (take l.finished ts)) (sym now.planned_are);
    } in
    let all = wrote_allowed (es ++ lanes_events ls) l.finished w.tasks w.rest (now.runs s.led.running) at
    (omega (arith, within, counted, a)) (ap (λ (ts : List Task). drop l.finished ts) now.planned_are ∙ w.next)
    (are_kept_more es (lanes_events ls) w.tasks w.kept) in
    record {
      fetched = r.0;
      expired = r.1;
      window_may = by
          (subst (λ (ks : List ℕ). AllowedAfter (es ++ lanes_events ls) (wrote_of ks)) (sym w.lengths_are) all) wrote;
    }
  where
    by : AllowedAfter (m.events ++ lanes_events ls) (wrote_of lengths) → (o : Result ℕ FileReconstructionError)
        → AllowedAfter (m.events ++ lanes_events ls) (window_events o lengths)
    by all (Ok k) = all
    by all (Err e) = tt

pub may_record : {S : Type 0} (told : S → SinkTold) (es : List Event) (l : Led) (places : List BlockAt)
    (lengths : List ℕ) (a z : RoundTold S) (j : Joined) → CanRound told a.clients es l places lengths a.writer
    → FetchedBeside told l places a z j → RoundMayBe es (lanes_of j.ends.items) (window_events j.wrote lengths)
may_record told es l places lengths a z j c f =
    subst (λ (x : List Event). RoundMayBe x (lanes_of j.ends.items) (window_events j.wrote lengths)) c.events_are
    (may_by c.setup c.start c.moment l places lengths c.is.pieces f.asked a.clients z.clients
    (lanes_of j.ends.items) j.wrote c.is.going c.is.listed c.is.window f.made f.drew.drew)
