-- A run after a whole join.
use Rattle.std.proofs.Common.{true, ◌≡◌, ◌⊎◌, inl, inr, zero, suc, ℕ, ◌+◌, ◌≤◌, List, [], ◌∷◌, refl, sym, subst, ◌∙◌, ap, arith, ⊎_elim, Ok, Err}
use Rattle.std.specs.Prelude.{None, OnOk, Option, Result, Some, length}
use Rattle.xet_outside.specs.Told.{AskCall, CacheTold, ClientTold, SignalTold, SinkTold}
use Rattle.xet_error.specs.declared.error.FileReconstructionError.{FileReconstructionError}
use Rattle.xet_error.specs.declared.error.FileReconstructionError.TheVariants as error
use Rattle.xet_offers.specs.declared.reconstruction_terms.xorb_block.XorbBlock.{XorbBlock}
use Rattle.xet_offers.specs.declared.reconstruction_terms.xorb_block.XorbBlockData.{XorbBlockData}
use Rattle.xet_events.specs.declared.event.Event.{Event}
use Rattle.xet_events.specs.declared.event.Event.TheVariants.{Cached}
use Rattle.xet_events.specs.Events.{written}
use Rattle.xet_events.proofs.CallerLemmas.{written-push}
use Rattle.xet_writers.specs.Calls.{closed_by}
use Rattle.xet_writers.specs.Sequential.{Sequential, told_of}
use Rattle.xet_writers.proofs.CallerLemmas.{open_writer}
use Rattle.xet_ties.specs.Setup.{RunTold, Setup}
use Rattle.xet_ties.specs.PartCalls.{FoundBlock, PollCall}
use Rattle.xet_ties.specs.Ties.{all_of, NoneLate, Slack}
use Rattle.xet_ties.proofs.CallerLemmas.{none_hidden, none_late, poll_ties, steady_leaves, stop_ties, grew_none}
use Rattle.xet_turns.specs.declared.joining.Prepared.{Prepared}
use Rattle.xet_leader.specs.declared.leader.LedPlan.{LedPlan}
use Rattle.xet_leader.specs.declared.missing_blocks.BlockAt.{BlockAt}
use Rattle.xet_stages.specs.declared.outcomes.Outcome.{Outcome}
use Rattle.xet_leader.specs.FetchLists.{IsFetchList}
use Rattle.xet_turns.specs.JoinedRuns.{CanJoin, JoinLeads, PolledFor, PrepareLeads, Touching}
use Rattle.xet_turns.specs.RoundCalls.{CanRound, RoundLeads}
use Rattle.xet_leader.specs.Lacking.{missing_of}
use Rattle.xet_leader.specs.Led.{IsLed, Led}
use Rattle.xet_leader.specs.Looks.{IsLedBy, LookLeads, LookTurn, LooksFrom, to_fetch, to_round}
use Rattle.xet_leader.specs.Plans.{Answer}
use Rattle.xet_stages.specs.Measures.{LeavesLess, LeavesSame, measure}
use Rattle.xet_stages.specs.RunWindows.{WindowLeads}
use Rattle.xet_leader.specs.Steady.{IsFailing, IsGoing, IsIdle, IsSteady, Loose, Moment, no_loose}
use Rattle.xet_stages.proofs.CallerLemmas.{measure_rest}
use Rattle.xet_leader.proofs.CallerLemmas.{led_more, tells_more_heard}

-- ---- the signal

abbrev with_signal : Moment → SignalTold → Moment
with_signal m y = record { told = record m.told { signal = y }; events = m.events }

calm_goes : (g : Setup) (b : RunTold) (m : Moment) (o : Loose) (l : Led) (y : SignalTold)
    → PollCall m.told.signal y (Ok tt) → IsGoing g b m o l
    → IsGoing g b (with_signal m y) (record o { polls = o.polls + 1 }) l
calm_goes g b m o l y c s =
    let sl = s.slack in
    let to : Slack = record sl { spare = sl.spare + 1 } in
    record {
      slack = to;
      ties = poll_ties g b m.told m.events sl m.told.signal y refl c s.ties;
      settled = record {
        hidden = s.settled.hidden;
        late = s.settled.late;
        lost = s.settled.lost;
        ahead = s.settled.ahead;
        spare = ap (λ (n : ℕ). n + 1) s.settled.spare;
        pending = s.settled.pending;
        due = s.settled.due;
        step = s.settled.step;
        calm = s.settled.calm;
      };
      led = led_more g b m.events sl to o.stale l (tells_more_heard sl to (grew_none sl.heard) refl) s.led;
      calm = c.calm.no refl ∙ s.calm;
      unfailed = s.unfailed;
      cache_tells = s.cache_tells;
    }

stop_fails : (g : Setup) (b : RunTold) (m : Moment) (o : Loose) (l : Led) (y : SignalTold)
    (e : FileReconstructionError) → e ≡ error.Cancelled → AskCall m.told.signal y true → IsGoing g b m o l
    → IsFailing g b (with_signal m y) e
stop_fails g b m o l y e is c s =
    let sl = s.slack in
    let r = stop_ties g b m.told m.events sl m.told.signal y refl c s.ties in
    let f : IsFailing g b (with_signal m y) error.Cancelled = record {
      slack = sl;
      ties = r.0;
      left = steady_leaves b.clients error.Cancelled sl (ap all_of s.settled.hidden ∙ none_hidden b.clients)
          (subst NoneLate (sym s.settled.late) (none_late b.clients)) s.settled.ahead (λ v. s.settled.calm);
      cause = r.1;
      unfailed = s.unfailed;
      spent = λ h. absurd (cc);
      halted = λ yes. tt;
      under = λ u. s.led.under;
      cache_tells = s.cache_tells;
    } in
    subst (λ (x : FileReconstructionError). IsFailing g b (with_signal m y) x) (sym is) f

-- the signal was asked, or was not and said nothing
abbrev pub MayPoll : SignalTold → SignalTold → Answer → Type 0
MayPoll x y answer = PollCall x y answer ⊎ ((y ≡ x) × (answer ≡ Ok tt))

pub may_poll : (count : ℕ) (x y : SignalTold) (answer : Answer) → PolledFor count x y answer → MayPoll x y answer
may_poll zero x y answer p = inr p
may_poll (suc count) x y answer p = inl p

pub polled_as : (n count : ℕ) (x y : SignalTold) (answer : Answer) → n ≡ count → PolledFor n x y answer
    → PolledFor count x y answer
polled_as n count x y answer e p = subst (λ (i : ℕ). PolledFor i x y answer) e p

-- the signal was not asked
abbrev Unasked : SignalTold → SignalTold → Answer → Type 0
Unasked x y answer = (y ≡ x) × (answer ≡ Ok tt)

polled_goes : (g : Setup) (b : RunTold) (m : Moment) (es : List Event) (places : List BlockAt) (l : Led)
    (y : SignalTold) → PolledFor (length places) m.told.signal y (Ok tt) → IsGoing g b m (to_fetch es places) l
    → IsGoing g b (with_signal m y) (to_round es places) l
polled_goes g b m es [] l y c s = subst (λ (z : SignalTold). IsGoing g b (with_signal m z) (to_round es []) l)
    (sym c.0) s
polled_goes g b m es (p ∷ places) l y c s = calm_goes g b m (to_fetch es (p ∷ places)) l y c s

polled_fails : (g : Setup) (b : RunTold) (m : Moment) (o : Loose) (l : Led) (y : SignalTold)
    (e : FileReconstructionError) → MayPoll m.told.signal y (Err e) → IsGoing g b m o l
    → IsFailing g b (with_signal m y) e
polled_fails g b m o l y e c s =
    ⊎_elim (λ (p : PollCall m.told.signal y (Err e)). stop_fails g b m o l y e p.stop.0 p.stop.1 s)
    (λ (p : Unasked m.told.signal y (Err e)). absurd (let z : Err e ≡ Ok tt = p.1 in cc)) c

-- ---- before a round

-- the moment after looks
abbrev looked_at : Moment → CacheTold → List Event → Moment
looked_at m c fs = record { told = record m.told { cache = c }; events = fs }

-- no look found memory
pub look_fails : {S : Type 0} (told : S → SinkTold) (c d : CacheTold) (x : SignalTold) (es fs : List Event)
    (l k : Led) (v : Sequential S) (e : FileReconstructionError) → LookLeads c d es fs l k (Err e)
    → PrepareLeads told (record { cache = c; signal = x; events = es; led = l; writer = v })
    (record { cache = d; signal = x; events = fs; led = k; writer = v }) (Err e)
look_fails told c d x es fs l k v e looks g m cache signal events = record {
  ok = λ b s. tt;
  err = λ b s. subst (λ (y : SignalTold). IsFailing g b
      (record { told = record m.told { cache = d; signal = y }; events = fs }) e) signal
      ((looks g m cache events).err b s.going);
  same = tt;
}

-- the signal said yes
pub poll_fails : {S : Type 0} (told : S → SinkTold) (c d : CacheTold) (x y : SignalTold) (es fs : List Event)
    (l k : Led) (v : Sequential S) (places : List BlockAt) (e : FileReconstructionError)
    → LookLeads c d es fs l k (Ok places) → MayPoll x y (Err e)
    → PrepareLeads told (record { cache = c; signal = x; events = es; led = l; writer = v })
    (record { cache = d; signal = y; events = fs; led = k; writer = v }) (Err e)
poll_fails told c d x y es fs l k v places e looks polled g m cache signal events = record {
  ok = λ b s. tt;
  err = λ b s. polled_fails g b (looked_at m d fs) (to_fetch fs places) k y e
      (subst (λ (z : SignalTold). MayPoll z y (Err e)) (sym signal) polled)
      ((looks g m cache events).ok b s.going).0;
  same = tt;
}

-- looks write nothing
found_same : (x y : XorbBlock) (q : ℕ) (es fs : List Event) (o : Option XorbBlockData) → FoundBlock x y q es fs o
    → written fs ≡ written es
found_same x y q es fs None h = ap written h.1
found_same x y q es fs (Some d) h =
    let p = written-push es (Cached q x.xorb_block_index) in
    ap written h.1 ∙ (omega (arith, p))

looks_same : (t u : CacheTold) (es fs : List Event) (ls ms : List LedPlan) (cs left : List BlockAt)
    → LooksFrom t u es fs ls ms cs left → written fs ≡ written es
looks_same t u es fs ls ms [] left h = ap written h.1
looks_same t u es fs ls ms (c ∷ cs) left h =
    let one = h.5.looked in
    looks_same h.0 u h.1 fs h.2 ms cs h.4 h.7 ∙ found_same h.5.block h.5.now c.plan es h.1 one.found one.is

-- and leave no more
found_rest : (g : Setup) (x y : XorbBlock) (q : ℕ) (es fs : List Event) (l : Led) (o : Option XorbBlockData)
    → FoundBlock x y q es fs o → measure g fs l ≤ measure g es l
found_rest g x y q es fs l None h = let e = ap (λ (v : List Event). measure g v l) h.1 in omega (arith, e)
found_rest g x y q es fs l (Some d) h =
    let e = ap (λ (v : List Event). measure g v l) h.1 in
    let r =
    measure_rest g es (Cached q x.xorb_block_index) l l (record { query = refl; tasks = refl; admit = refl })
    (omega arith) in
    omega (arith, e, r)

looks_rest : (g : Setup) (t u : CacheTold) (es fs : List Event) (l : Led) (ls ms : List LedPlan)
    (cs left : List BlockAt) → LooksFrom t u es fs ls ms cs left → measure g fs l ≤ measure g es l
looks_rest g t u es fs l ls ms [] left h = let e = ap (λ (v : List Event). measure g v l) h.1 in omega (arith, e)
looks_rest g t u es fs l ls ms (c ∷ cs) left h =
    let one = h.5.looked in
    let a = looks_rest g h.0 u h.1 fs l h.2 ms cs h.4 h.7 in
    let b = found_rest g h.5.block h.5.now c.plan es h.1 l one.found one.is in
    omega (arith, a, b)

-- the writer is idle still
idle_still : {S : Type 0} (told : S → SinkTold) (m n : Moment) (v : Sequential S) → n.told.sink ≡ m.told.sink
    → written n.events ≡ written m.events → IsIdle told m v → IsIdle told n v
idle_still told m n v sink same i = record {
  sink = sink ∙ i.sink;
  queue = i.queue;
  kept = i.kept;
  open_still = i.open_still;
  expected = i.expected ∙ sym same;
  delivered = i.delivered ∙ sym same;
}

-- a run that goes on after looks and the signal
polled_on : {S : Type 0} (told : S → SinkTold) (g : Setup) (b : RunTold) (m : Moment) (c d : CacheTold)
    (x y : SignalTold) (es fs : List Event) (l k : Led) (v : Sequential S) (places : List BlockAt)
    → LookLeads c d es fs l k (Ok places) → PolledFor (length places) x y (Ok tt) → m.told.cache ≡ c → m.told.signal ≡ x
    → m.events ≡ es
    → IsSteady told g b m no_loose l v → IsGoing g b (with_signal (looked_at m d fs) y) (to_round fs places) k
    × IsFetchList fs k.finished places
polled_on told g b m c d x y es fs l k v places looks polled cache signal events s =
    let r = (looks g m cache events).ok b s.going in (
      polled_goes g b (looked_at m d fs) fs places k y
          (subst (λ (z : SignalTold). PolledFor (length places) z y (Ok tt)) (sym signal) polled) r.0,
      r.1,
    )

-- the window was made
pub window_made : {S : Type 0} (told : S → SinkTold) (c d : CacheTold) (x y : SignalTold) (es fs : List Event)
    (l k : Led) (v w : Sequential S) (places : List BlockAt) (lengths : List ℕ) → LookTurn c d es fs l k (Ok places)
    → LookLeads c d es fs l k (Ok places) → PolledFor (length places) x y (Ok tt) → WindowLeads k v w (Ok lengths)
    → PrepareLeads told (record { cache = c; signal = x; events = es; led = l; writer = v })
    (record { cache = d; signal = y; events = fs; led = k; writer = w })
    (Ok (record { places = places; lengths = lengths }))
window_made told c d x y es fs l k v w places lengths turn looks polled win g m cache signal events = record {
  ok = λ b s.
      let r = polled_on told g b m c d x y es fs l k v places looks polled cache signal events s in
      let n : Moment = with_signal (looked_at m d fs) y in
      let made = (win g b n (to_round fs places) r.0).ok in
      let same : written fs ≡ written m.events = looks_same c d es fs l.plans k.plans
      (missing_of l) places turn.looks.ok ∙ ap written (sym events) in
      record {
        going = r.0;
        listed = r.1;
        pieces = made.pieces;
        window = made.window;
        writer = record {
          before = v;
          idle = idle_still told m n v refl same s.writer;
          now =
              made.writer (open_writer v s.writer.kept s.writer.open_still);
        };
      };
  err = λ b s. tt;
  same =
      let stays = looks_rest g c d es fs l l.plans k.plans (missing_of l) places turn.looks.ok in
      let left : measure g fs k ≡ measure g fs l = ap (λ (x : Led). measure g fs x) turn.led in
      let first : measure g es l ≡ measure g m.events l = ap (λ (x : List Event). measure g x l) (sym events) in
      record {
        stays = omega (arith, stays, left, first);
        finished_is = ap (λ (x : Led). x.finished) turn.led;
        admitted_is = ap (λ (x : Led). x.admitted) turn.led;
      };
}

-- or it was not
pub window_fails : {S : Type 0} (told : S → SinkTold) (c d : CacheTold) (x y : SignalTold) (es fs : List Event)
    (l k : Led) (v w : Sequential S) (places : List BlockAt) (e : FileReconstructionError)
    → LookLeads c d es fs l k (Ok places) → PolledFor (length places) x y (Ok tt) → WindowLeads k v w (Err e)
    → PrepareLeads told (record { cache = c; signal = x; events = es; led = l; writer = v })
    (record { cache = d; signal = y; events = fs; led = k; writer = w }) (Err e)
window_fails told c d x y es fs l k v w places e looks polled win g m cache signal events = record {
  ok = λ b s. tt;
  err = λ b s.
      let r = polled_on told g b m c d x y es fs l k v places looks polled cache signal events s in
      (win g b (with_signal (looked_at m d fs) y) (to_round fs places) r.0).err
      (open_writer v s.writer.kept s.writer.open_still);
  same = tt;
}

-- ---- the join

pub led_by : {S : Type 0} (told : S → SinkTold) (cs : List ClientTold) (c : CacheTold) (x : SignalTold)
    (es : List Event) (l : Led) (v : Sequential S) → CanJoin told cs c x es l v → IsLedBy es l
led_by told cs c x es l v h = record {
  setup = h.setup;
  start = h.start;
  slack = h.steady.going.slack;
  stale = [];
  led = subst (λ (y : List Event). IsLed h.setup h.start y h.steady.going.slack [] l) h.events_are
      h.steady.going.led;
}

-- the moment after it was prepared
abbrev prepared_at : {S : Type 0} → Moment → Touching S → Moment
prepared_at m z = record { told = record m.told { cache = z.cache; signal = z.signal }; events = z.events }

pub can_round : {S : Type 0} (told : S → SinkTold) (cs : List ClientTold) (a z : Touching S) (p : Prepared)
    (places : List BlockAt) → places ≡ p.places → CanJoin told cs a.cache a.signal a.events a.led a.writer
    → PrepareLeads told a z (Ok p) → CanRound told cs z.events z.led places p.lengths z.writer
can_round told cs a z p places same h leads = subst
    (λ (ps : List BlockAt). CanRound told cs z.events z.led ps p.lengths z.writer) (sym same) (record {
      setup = h.setup;
      start = h.start;
      moment = prepared_at h.moment z;
      clients_are = h.clients_are;
      events_are = refl;
      is = (leads h.setup h.moment h.cache_is h.signal_is h.events_are).ok h.start h.steady;
    })

-- it could not be prepared
pub join_refused : {S : Type 0} (told : S → SinkTold) (tries : ℕ) (cs : List ClientTold) (a z : Touching S)
    (e : FileReconstructionError) → (closed_by (told_of a.writer) ≡ None → z.writer.sink ≡ a.writer.sink)
    → PrepareLeads told a z (Err e)
    → JoinLeads told tries (record {
      clients = cs;
      cache = a.cache;
      signal = a.signal;
      events = a.events;
      led = a.led;
      writer = a.writer;
    }) (record {
      clients = cs;
      cache = z.cache;
      signal = z.signal;
      events = z.events;
      led =
          z.led;
      writer = z.writer;
    }) (Err e)
join_refused {S = S} told tries cs a z e sink leads g m few clients cache signal events = record {
  ok = λ b s. tt;
  err = λ b s.
      let f = (leads g m cache signal events).err b s in
      let F : List ClientTold → SinkTold → Type 0 =
      λ c t. IsFailing g b (record {
        told = record m.told {
          clients = c;
          cache = z.cache;
          signal = z.signal;
          sink = t;
        };
        events = z.events;
      }) e in
      let first : F m.told.clients m.told.sink = f in
      let one : F cs m.told.sink = subst (λ (c : List ClientTold). F c m.told.sink) clients first in
      subst (λ (t : SinkTold). F cs t) (s.writer.sink
      ∙ ap told (sym (sink (open_writer a.writer s.writer.kept s.writer.open_still)))) one;
  less = λ b s. tt;
}

-- a part that leaves no more, and one that leaves less
less_both : (g : Setup) (es gs fs : List Event) (l n k : Led) (answer : Result Outcome FileReconstructionError)
    → LeavesSame g es gs l n → OnOk answer (LeavesLess g gs fs n k) → OnOk answer (LeavesLess g es fs l k)
less_both g es gs fs l n k (Ok o) s h =
    let a = s.stays in
    let c = h.stays in
    let f = s.finished_is in
    let d = s.admitted_is in
    record {
      stays = omega (arith, a, c);
      falls = λ open_still. let x = h.falls (omega (arith, f, d, open_still)) in omega (arith, a, x);
    }
less_both g es gs fs l n k (Err e) s h = tt

-- the round was run
pub join_done : {S : Type 0} (told : S → SinkTold) (tries : ℕ) (cs ns : List ClientTold) (a z : Touching S)
    (fs : List Event) (k : Led) (w : Sequential S) (p : Prepared) (places : List BlockAt)
    (answer : Result Outcome FileReconstructionError) → places ≡ p.places → PrepareLeads told a z (Ok p)
    → RoundLeads told tries places p.lengths (record { clients = cs; writer = z.writer })
    (record { clients = ns; writer = w }) z.events fs z.led k answer
    → JoinLeads told tries (record {
      clients = cs;
      cache = a.cache;
      signal = a.signal;
      events = a.events;
      led = a.led;
      writer = a.writer;
    }) (record {
      clients = ns;
      cache = z.cache;
      signal = z.signal;
      events = fs;
      led =
          k;
      writer = w;
    }) answer
join_done told tries cs ns a z fs k w p places answer same ready round g m few clients cache signal events =
    let r = (subst (λ (ps : List BlockAt). RoundLeads told tries ps p.lengths
    (record { clients = cs; writer = z.writer }) (record { clients = ns; writer = w }) z.events fs z.led k answer)
    same round) g (prepared_at m z) few clients refl in
    let q = ready g m cache signal events in
    record {
      ok = λ b s. r.ok b (q.ok b s);
      err = λ b s. r.err b (q.ok b s);
      less = λ b s. less_both g m.events z.events fs a.led z.led k answer q.same (r.less b (q.ok b s));
    }
