-- One pull of a stream, from its parts.
use Rattle.std.proofs.Common.{◌≡◌, ⊎_elim, inl, inr, ℕ, Bool, List, [], ◌∷◌, ◌++◌, length, refl, sym, subst, ◌∙◌, ap, arith, Option, Some, None}
use Rattle.std.specs.Prelude.{IfSome, min}
use Rattle.std.proofs.lemmas.List.{append-nil}
use Rattle.std.proofs.lemmas.List.Elements.{All-nil}
use Rattle.xet_base.specs.Store.{Store}
use Rattle.xet_outside.specs.Told.{CacheEntry, CacheTold, ClientTold}
use Rattle.xet_error.specs.declared.error.FileReconstructionError.{FileReconstructionError}
use Rattle.xet_error.specs.declared.error.FileReconstructionError.TheVariants as error
use Rattle.xet_events.specs.declared.event.Event.{Event}
use Rattle.xet_events.specs.declared.event.Event.TheVariants.{Fail}
use Rattle.xet_events.specs.Allowed.{IsRunning}
use Rattle.xet_events.specs.Events.{planned}
use Rattle.xet_events.specs.Limits.{LimitTold}
use Rattle.xet_history.specs.TrueHistory.{IsTrueHistory}
use Rattle.xet_parts.specs.Stops.{IsStopped}
use Rattle.xet_ties.specs.PartCalls.{stop_event}
use Rattle.xet_ties.specs.Setup.{CacheTells, EachGoesOn, IsHonestEntry, IsOver, RunTold, Setup, download_of, most_lanes}
use Rattle.xet_ties.specs.Ties.{FirstStarts}
use Rattle.xet_leader.specs.Led.{Led}
use Rattle.xet_stream_rules.specs.declared.step.Step.{Step}
use Rattle.xet_stream_rules.specs.declared.step.Step.TheVariants.{Pending, Ready}
use Rattle.xet_stream_rules.specs.MomentCauses.{CauseAt}
use Rattle.xet_stream_rules.specs.Moments.{At, Goes, at}
use Rattle.xet_stream_rules.specs.Pulls.{Hands, IsSpent, IsTold, StepCause, StepDone, StepFails, StepWork, pulled_once}
use Rattle.xet_stream_rules.specs.StepTold.{Asks, counted_fetches, no_asks, IsOf, IsTurn, MayAskFirst, StepCache}
use Rattle.xet_stream_rules.specs.Streams.{Carries, IsAtEnd, IsOpen, MayGoOn, Stands, StandsStill, StreamView, TellsAs, everybody, nobody, telling_so}
use Rattle.xet_stream_rules.proofs.CallerLemmas.{running_both, tells_everybody, tells_nobody, each_same, starts_still, true_still}
use Rattle.xet_stream_blocks.proofs.CallerLemmas.{no_looks, no_offers}
use Rattle.xet_streams.specs.steps.Pulling.{IsStart}
use Rattle.xet_streams.specs.steps.Stepping.{HandsAt, StepFailed, StepTaken}
use Rattle.xet_streams.specs.steps.Working.{Worked}
use Rattle.xet_streams.specs.Parts.{HoldsAt}

-- ---- how a stream stands

-- an open stream is open with a pull made
open_once : (v : StreamView) → IsOpen v → IsOpen (pulled_once v)
open_once v o = record { untold = o.untold; uncancelled = o.uncancelled }

pub stands_once : (b : RunTold) (v : StreamView) → Stands b v → Stands b (pulled_once v)
stands_once b v h = record {
  true_of = h.true_of;
  starts = h.starts;
  led = λ o. h.led (record { untold = o.untold; uncancelled = o.uncancelled });
}

-- what holds of its history, whatever else
pub record IsTrueSo (b : RunTold) (v : StreamView) : Type 0 where
  pub true_of : (s : Store) → IsOver s b.clients → IsTrueHistory s (download_of v.setup) v.events
  pub starts : FirstStarts v.setup.range.start (planned v.events)

-- an error is recorded, or nothing
pub told_stands : (b : RunTold) (v : StreamView) (e told : FileReconstructionError) (n : StreamView) → IsTrueSo b v
    → IsTold v n e told → Stands b n
told_stands b v e told n h t = ⊎_elim
    (λ (z : (told ≡ e) × (n ≡ record v { events = v.events ++ Fail told ∷ []; told_error = Some told })).
    subst (Stands b) (sym z.1) (failed told))
    (λ (z : (told ≡ error.OutOfMemory) × (n ≡ record v { told_error = Some told })).
    subst (Stands b) (sym z.1) (record {
      true_of = h.true_of;
      starts = h.starts;
      led = λ o. absurd (let x = o.untold in cc);
    })) t
  where
    failed : (x : FileReconstructionError) → Stands b (record v { events = v.events ++ Fail x ∷ []; told_error = Some x })
    failed x = record {
      true_of = λ s over. true_still s (download_of v.setup) v.events (Fail x)
          (record { tasks = refl; query = refl; wrote = refl }) tt (h.true_of s over);
      starts = starts_still v.setup.range.start v.events (Fail x) (record { tasks = refl; query = refl; wrote = refl })
          h.starts;
      led = λ o. absurd (let y = o.untold in cc);
    }

-- a stream that was refused, or whose step found no memory to begin
pub told_still : (v : StreamView) (e told : FileReconstructionError) (n : StreamView) (cs : List ClientTold) (k : CacheTold)
    → IsTold (pulled_once v) n e told → StandsStill cs k v n
told_still v e told n cs k t store entries tells h = told_stands (telling_so store entries) (pulled_once v) e told n
    (record { true_of = h.true_of; starts = h.starts }) t

-- a stream that did nothing
pub nothing_done : (v : StreamView) (cs : List ClientTold) (k : CacheTold) → StandsStill cs k v (pulled_once v)
nothing_done v cs k store entries tells h = stands_once (telling_so store entries) v h

-- the event of an error that isn't a cancel
pub stopped_told : (m n : StreamView) (fs : List Event) (e told : FileReconstructionError) → stop_event e ≡ Fail e
    → IsStopped m.events fs e told → n ≡ record m { events = fs; told_error = Some told } → IsTold m n e told
stopped_told m n fs e told event stopped is = ⊎_elim
    (λ (z : (told ≡ e) × (fs ≡ m.events ++ stop_event e ∷ [])).
    inl (
      z.0,
      is ∙ ap (λ (v : List Event). record m { events = v; told_error = Some told })
          (z.1 ∙ ap (λ (v : Event). m.events ++ v ∷ []) (event ∙ ap Fail (sym z.0))),
    ))
    (λ (z : (told ≡ error.OutOfMemory) × (fs ≡ m.events)).
    inr (z.0, is ∙ ap (λ (v : List Event). record m { events = v; told_error = Some told }) z.1)) stopped

-- ---- what a stream holds

pub held_running : (g : Setup) (es : List Event) (o : Option Led) (reached : Bool) → HoldsAt g es o reached
    → IsRunning es
held_running g es None reached h = subst IsRunning (sym h.0) refl
held_running g es (Some l) reached h = h.0.led.running

pub held_carries : (g : Setup) (es : List Event) (o : Option Led) (reached : Bool) → HoldsAt g es o reached
    → IfSome o (Carries nobody g es)
held_carries g es None reached h = tt
held_carries g es (Some l) reached h = h.0

-- ---- a step of a stream

module _ (b : StreamView) (open_now : IsOpen b) (led : Led) (start : IsStart b.setup b.events b.led led) (cs : List ClientTold) (k : CacheTold) (after : LimitTold) where
  abbrev g : Setup
  g = b.setup

  abbrev x : At
  x = at b.events led cs k

  -- the stream at a moment of the step
  abbrev view : List Event → Led → StreamView
  view es l = record b { events = es; led = Some l; limits = after }

  open_then : (es : List Event) (l : Led) → IsOpen (view es l)
  open_then es l = record { untold = open_now.untold; uncancelled = open_now.uncancelled }

  -- whatever is told, its leader stands to it as the stream did
  led_of : (store : Option Store) (entries : Option (List CacheEntry)) → Stands (telling_so store entries) b
      → Carries (telling_so store entries) g b.events led
  led_of store entries s = start.carries store entries (s.led open_now)

  pub stands_then : (y : At) → Goes g x y → (store : Option Store) (entries : Option (List CacheEntry))
      → TellsAs (telling_so store entries) cs k → Stands (telling_so store entries) b
      → Stands (telling_so store entries) (view y.events y.led)
  stands_then y on store entries tells s = record {
    true_of = λ z over. on.lasts.true_of z (tells.clients z over) (s.true_of z over);
    starts = on.lasts.starts s.starts;
    led = λ o. on.carries (telling_so store entries) tells (led_of store entries s);
  }

  -- its work
  abbrev pub work_of : (y : At) → Worked g x y b.limits after → StepWork b (view y.events y.led) cs y.clients k y.cache
  work_of y w = record {
    new = w.new;
    added = w.added;
    few = w.few;
    rest = refl;
    asks = w.asks;
    calls = record {
      lane = w.calls.lane;
      turn = subst (λ (n : ℕ). IfSome w.asks.block (λ _. IsTurn n (min (length cs) most_lanes) w.calls.lane)) start.fetches
          w.calls.turn;
      planned = w.calls.planned;
      fetched = w.calls.fetched;
      plan = w.calls.plan;
      block = w.calls.block;
      again = w.calls.again;
    };
    events = w.events;
    cache = w.cache;
    unused = w.unused;
    limits = w.limits;
    few_unused = w.few_unused;
    goes_on = w.lasts.goes_on;
    cache_later = λ s over tells.
        let t = w.lasts.tells (everybody s) (tells_everybody s cs k over tells) in
        t.cache s (record { tell = (refl, tt); valid = over.valid }) (All-nil (IsHonestEntry s));
    running = λ r. subst IsRunning (sym w.added) (running_both b.events w.new r w.running);
  }

  -- ---- it was done

  module _ (y : At) (mark reached : Bool) (holds : HoldsAt g b.events b.led mark) (answer : Step (Option (List ℕ)))
      (t : StepTaken g x y b.limits after reached answer) where
    carried : Carries nobody g b.events led
    carried = start.carries None None (held_carries g b.events b.led mark holds)

    abbrev end : At
    end = t.end

    clients_end : (o : Step (Option (List ℕ))) → HandsAt g end y o → end.clients ≡ y.clients
    clients_end Pending h = ap (λ (v : At). v.clients) (sym h.2)
    clients_end (Ready None) h = ap (λ (v : At). v.clients) (sym h.1)
    clients_end (Ready (Some piece)) h = ap (λ (v : At). v.clients) (sym h.1.is)

    cache_end : (o : Step (Option (List ℕ))) → HandsAt g end y o → end.cache ≡ y.cache
    cache_end Pending h = ap (λ (v : At). v.cache) (sym h.2)
    cache_end (Ready None) h = ap (λ (v : At). v.cache) (sym h.1)
    cache_end (Ready (Some piece)) h = ap (λ (v : At). v.cache) (sym h.1.is)

    abbrev work : StepWork b (view end.events end.led) cs end.clients k end.cache
    work = work_of end t.worked.work

    abbrev work_end : StepWork b (view end.events end.led) cs y.clients k y.cache
    work_end =
        let w = work in
        let c = clients_end answer t.hands in
        let d = cache_end answer t.hands in
        record {
          new = w.new;
          added = w.added;
          few = w.few;
          rest = w.rest;
          asks = w.asks;
          calls = record {
            lane = w.calls.lane;
            turn = w.calls.turn;
            planned = w.calls.planned;
            fetched = w.calls.fetched;
            plan = w.calls.plan;
            block = w.calls.block;
            again = subst (λ (ds : List ClientTold). MayAskFirst g.file w.asks.again w.calls.fetched ds) c w.calls.again;
          };
          events = w.events;
          cache = subst (λ (l : CacheTold). StepCache w.new k l) d w.cache;
          unused = w.unused;
          limits = w.limits;
          few_unused = w.few_unused;
          goes_on = subst (λ (ds : List ClientTold). EachGoesOn cs ds) c w.goes_on;
          cache_later = λ s over tells. subst (CacheTells s) d (w.cache_later s over tells);
          running = w.running;
        }

    goes_then : (o : Step (Option (List ℕ))) → (IsAtEnd g.range end.events → ⊥) → MayGoOn (view end.events end.led)
    goes_then o before = record { still = open_then end.events end.led; before = before }

    handed : (o : Step (Option (List ℕ))) → HandsAt g end y o
        → Hands (view end.events end.led) (view y.events y.led) o
    handed Pending h = (goes_then Pending h.0, h.1, ap (λ (v : At). view v.events v.led) h.2)
    handed (Ready None) h = (h.0, ap (λ (v : At). view v.events v.led) h.1)
    handed (Ready (Some piece)) h = (
      goes_then (Ready (Some piece)) h.0,
      record {
        led = end.led;
        is_led = refl;
        count = h.1.count;
        term = h.1.term;
        at = h.1.at;
        empties = h.1.empties;
        next = h.1.next;
        bytes = h.1.bytes;
        sized = h.1.sized;
        some = h.1.some;
        is = ap (λ (v : At). view v.events v.led) h.1.is;
      },
    )

    unspent : IsSpent (view end.events end.led) t.worked.work.new → ⊥
    unspent s =
        let c = t.worked.goes.carries nobody (tells_nobody cs k) carried in
        let under = c.led.under s.plan s.block in
        let reached = s.reached in
        omega (arith, under, reached)

    pub step_done : StepDone b (view y.events y.led) cs y.clients k y.cache answer
    step_done = record {
      end = view end.events end.led;
      work = work_end;
      recorded = t.worked.recorded;
      used = t.worked.used;
      counted = t.worked.counted
          ∙ ap (λ (n : ℕ). counted_fetches n t.worked.work.asks.block) start.fetches;
      stands = λ store entries tells s. stands_then end t.worked.goes store entries tells s;
      hands = handed answer t.hands;
      moved = t.moved;
      falls = t.falls;
      unspent = unspent;
    }

    pub done_stands : StandsStill cs k b (view y.events y.led)
    done_stands store entries tells s = stands_then y t.goes store entries tells s

  -- ---- it failed

  -- the event by which its error is recorded
  pub event_of : (y : At) (new : List Event) (a : Asks) (o : FileReconstructionError) → CauseAt g x y new a o
      → stop_event o ≡ Fail o
  event_of y new a error.OutOfMemory h = refl
  event_of y new a error.ClientError h = refl
  event_of y new a error.FileNotFound h = refl
  event_of y new a error.UrlExpired h = refl
  event_of y new a error.IoError h = refl
  event_of y new a (error.CorruptedReconstruction q) h = refl
  event_of y new a (error.ConfigurationError s) h = refl
  event_of y new a error.Cancelled h = absurd h
  event_of y new a (error.InternalWriterError w) h = refl

  module _ (y : At) (e : FileReconstructionError) (f : StepFailed g x y b.limits after e) (told : FileReconstructionError)
      (n : StreamView) (is : IsTold (view y.events y.led) n e told) where
    abbrev m : StreamView
    m = view y.events y.led

    cause_of : (o : FileReconstructionError) → CauseAt g x y f.work.new f.work.asks o
        → StepCause b m f.work.new cs y.clients f.work.asks o
    cause_of error.OutOfMemory h = tt
    cause_of error.ClientError h = h
    cause_of error.FileNotFound h = h
    cause_of error.UrlExpired h = record {
      lane = h.lane;
      plan = h.plan;
      block = h.block;
      last = h.last;
      reached = h.reached;
    }
    cause_of error.IoError h = absurd h
    cause_of (error.CorruptedReconstruction q) h = record {
      untrue = λ s over stands. h.untrue s over (led_of (Some s) None stands);
      failed = h.failed;
    }
    cause_of (error.ConfigurationError s) h = absurd h
    cause_of error.Cancelled h = absurd h
    cause_of (error.InternalWriterError w) h = absurd h

    pub step_fails : StepFails b n cs y.clients k y.cache told
    step_fails = record {
      end = m;
      work = work_of y f.work;
      failed = e;
      cause = cause_of e f.cause;
      spent = λ s. f.spent (record {
        lane = s.lane;
        plan = s.plan;
        block = s.block;
        last = s.last;
        reached = s.reached;
      });
      told = is;
    }

    pub fails_stands : StandsStill cs k b n
    fails_stands store entries tells s = told_stands (telling_so store entries) m e told n (record {
      true_of = λ z over. f.work.lasts.true_of z (tells.clients z over) (s.true_of z over);
      starts = f.work.lasts.starts s.starts;
    }) is

-- ---- a step that found no memory to begin

abbrev idle_work : (v : StreamView) (cs : List ClientTold) (k : CacheTold) → StepWork v v cs cs k k
idle_work v cs k = record {
  new = [];
  added = sym (append-nil v.events);
  few = record {
    plans = omega arith;
    cached = omega arith;
    fetched = omega arith;
    refreshes = omega arith;
    pieces = refl;
  };
  rest = refl;
  asks = no_asks;
  calls = record { lane = 0; turn = tt; planned = cs; fetched = cs; plan = refl; block = refl; again = refl };
  events = All-nil (IsOf 0 no_asks);
  cache = record {
    looks = [];
    looked = k;
    look = no_looks k;
    offer = no_offers k;
    cached = omega arith;
  };
  unused = [];
  limits = refl;
  few_unused = omega arith;
  goes_on = each_same cs;
  cache_later = λ s over tells. tells;
  running = λ r. r;
}

pub short_fails : (v n : StreamView) (cs : List ClientTold) (k : CacheTold) (told : FileReconstructionError)
    → IsTold v n error.OutOfMemory told → StepFails v n cs cs k k told
short_fails v n cs k told is = record {
  end = v;
  work = idle_work v cs k;
  failed = error.OutOfMemory;
  cause = tt;
  spent = λ s. inr refl;
  told = is;
}
