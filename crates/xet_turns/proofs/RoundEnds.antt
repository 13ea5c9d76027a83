-- A run after a join, and what that left settled.
use Rattle.std.proofs.Common.{◌≡◌, ℕ, ◌+◌, ◌≤◌, Bool, List, [], ◌∷◌, ◌++◌, Option, None, Some, Ok, Err, refl, sym, subst, ◌∙◌, ap, arith, ⊎_elim}
use Rattle.std.specs.Prelude.{Result, OnOk}
use Rattle.xet_outside.specs.Told.{ClientTold, SignalTold, SinkTold}
use Rattle.xet_error.specs.declared.error.FileReconstructionError.{FileReconstructionError}
use Rattle.xet_events.specs.declared.event.Event.{Event}
use Rattle.xet_events.specs.declared.event.Event.TheVariants.{Refreshed}
use Rattle.xet_events.specs.Allowed.{IsRunning}
use Rattle.xet_events.specs.Events.{written}
use Rattle.xet_events.proofs.CallerLemmas.{written-push}
use Rattle.xet_writers.specs.Sequential.{Sequential}
use Rattle.xet_ties.specs.Setup.{Setup}
use Rattle.xet_leader.specs.declared.missing_blocks.BlockAt.{BlockAt}
use Rattle.xet_stages.specs.declared.outcomes.Outcome.{Outcome}
use Rattle.xet_leader.specs.Admission.{SameCounts}
use Rattle.xet_turns.specs.JoinedRuns.{CanJoin, JoinLead, JoinLeads, Joining}
use Rattle.xet_turns.specs.RoundCalls.{to_settle}
use Rattle.xet_leader.specs.Led.{AreStale, Led}
use Rattle.xet_stages.specs.Measures.{measure}
use Rattle.xet_leader.specs.Plans.{Answer, find_plan}
use Rattle.xet_leader.specs.Refreshing.{RefreshedEach, RefreshedThere, Touched}
use Rattle.xet_leader.specs.Settling.{BothSettled, OfferedShort, Reached, SettleLeads, SettleTurn}
use Rattle.xet_leader.specs.Steady.{IsIdle, LeadCall, LeadPart, Loose, Moment, no_loose}
use Rattle.xet_turns.specs.Works.{CanWork, FirstSettled, WorkCall, WorkLeads, seen_at}
use Rattle.xet_stages.proofs.CallerLemmas.{measure_rest}

-- ---- parts that leave the sink and write no byte

idle_still : {S : Type 0} (told : S → SinkTold) (m n : Moment) (w : Sequential S) → n.told.sink ≡ m.told.sink
    → written n.events ≡ written m.events → IsIdle told m w → IsIdle told n w
idle_still told m n w sink same i = record {
  sink = sink ∙ i.sink;
  queue = i.queue;
  kept = i.kept;
  open_still = i.open_still;
  expected = i.expected ∙ sym same;
  delivered = i.delivered ∙ sym same;
}

-- such a part, over a run whose writer is idle
pub part_call : {A S : Type 0} (told : S → SinkTold) (g : Setup) (m n : Moment) (o u : Loose) (l k : Led)
    (w : Sequential S) (answer : Result A FileReconstructionError) → n.told.sink ≡ m.told.sink
    → OnOk answer (written n.events ≡ written m.events) → LeadPart g m n o u l k answer
    → LeadCall told g m n o u l k w w answer
part_call told g m n o u l k w (Ok x) sink same p =
    record {
      ok = λ b s. record { going = p.ok b s.going; writer = idle_still told m n w sink same s.writer };
      err =
          λ b s. tt;
    }
part_call told g m n o u l k w (Err e) sink same p = record { ok = λ b s. tt; err = λ b s. p.err b s.going }

-- ---- settling leaves no more

-- no byte is written, and over each leader no more is left
pub record Keeps (g : Setup) (es fs : List Event) : Type 0 where
  pub same : written fs ≡ written es
  pub stays : (l : Led) → measure g fs l ≤ measure g es l

keeps_same : (g : Setup) (es fs : List Event) → fs ≡ es → Keeps g es fs
keeps_same g es fs e = record {
  same = ap written e;
  stays = λ l. let m = ap (λ (v : List Event). measure g v l) e in omega (arith, m);
}

keeps_refreshed : (g : Setup) (es fs : List Event) (p : ℕ) → fs ≡ es ++ Refreshed p ∷ [] → Keeps g es fs
keeps_refreshed g es fs p e =
    let w : written (es ++ Refreshed p ∷ []) ≡ written es + 0 = written-push es (Refreshed p) in
    let a = ap written e in
    record {
      same = omega (arith, a, w);
      stays = λ l.
          subst (λ (v : List Event). measure g v l ≤ measure g es l) (sym e)
          (measure_rest g es (Refreshed p) l l (record { query = refl; tasks = refl; admit = refl }) (omega arith));
    }

keeps_both : (g : Setup) (es fs gs : List Event) → Keeps g es fs → Keeps g fs gs → Keeps g es gs
keeps_both g es fs gs a c = record {
  same = c.same ∙ a.same;
  stays = λ l. let x = a.stays l in let y = c.stays l in omega (arith, x, y);
}

one_keeps : (g : Setup) (multi : Bool) (p : ℕ) (at : Option ℕ) (a b : Touched)
    → RefreshedThere multi p at a b (Ok tt) → Keeps g a.events b.events
one_keeps g multi p None a b r = keeps_same g a.events b.events (ap (λ (t : Touched). t.events) r.0)
one_keeps g multi p (Some place) a b r = keeps_refreshed g a.events b.events p r.call.recorded

each_keeps : (g : Setup) (multi : Bool) (ps : List ℕ) (a b : Touched) → RefreshedEach multi ps a b
    → Keeps g a.events b.events
each_keeps g multi [] a b r = keeps_same g a.events b.events (ap (λ (t : Touched). t.events) r)
each_keeps g multi (p ∷ ps) a b r =
    keeps_both g a.events r.0.events b.events (one_keeps g multi p (find_plan a.plans p) a r.0 r.1)
    (each_keeps g multi ps r.0 b r.2)

-- what was settled
pub record SettleKeeps (g : Setup) (a b : Reached) : Type 0 where
  pub same : written b.events ≡ written a.events
  pub stays : measure g b.events b.led ≤ measure g a.events a.led
  pub counts : SameCounts a.led b.led

pub settle_keeps : (g : Setup) (multi : Bool) (places : List BlockAt) (stale : List ℕ) (a b : Reached)
    → SettleTurn multi places stale a b (Ok tt) → SettleKeeps g a b
settle_keeps g multi places stale a b t =
    ⊎_elim
    (λ (x : BothSettled multi places stale a b (Ok tt)).
    let r = x.refreshed in
    let before : Touched = record { client = a.client; events = a.events; plans = a.led.plans } in
    let after : Touched = record { client = b.client; events = b.events; plans = b.led.plans } in
    let k = each_keeps g multi stale before after r.calls.ok in
    let led : measure g b.events b.led ≡ measure g b.events a.led = ap (λ (z : Led). measure g b.events z) r.led in
    let stays = k.stays a.led in
    record {
      same = k.same;
      stays = omega (arith, led, stays);
      counts = record {
        planned_is = ap (λ (z : Led). z.planned) r.led;
        admitted_is = ap (λ (z : Led). z.admitted) r.led;
      };
    })
    (λ (x : OfferedShort places a b (Ok tt)). absurd (let e : Ok tt ≡ Err x.error = x.is in cc))
    t

-- ---- a join, and what it left

-- the moment after what was left is settled
abbrev settled_at : Moment → List ClientTold → Reached → Moment
settled_at m cs b = record { told = record m.told { clients = b.client ∷ cs; cache = b.cache }; events = b.events }

module _ {S : Type 0} (told : S → SinkTold) (g : Setup) (m n : Moment) (l : Led) (v w : Sequential S) (multi : Bool)
    (out : Outcome) (cs : List ClientTold) (a b : Reached) (same : g.multirange ≡ multi)
    (clients : n.told.clients ≡ a.client ∷ cs) (cache : n.told.cache ≡ a.cache) (events : n.events ≡ a.events)
    (joined : JoinLead told g m n l a.led v w (Ok out)) (counts : SameCounts l a.led) where
  work_settled : (answer : Answer) → SettleTurn multi out.served.items out.stale.items a b answer
      → SettleLeads multi out.served.items out.stale.items a b answer
      → WorkCall told g m (settled_at n cs b) l b.led v w answer
  work_settled (Err e) t leads = record {
    call = record {
      ok = λ o s. tt;
      err = λ o s.
          let j = joined.ok o s in
          (leads g n cs same clients cache events j.1).err o j.0.going;
    };
    less = λ o s. tt;
    counts = tt;
  }
  work_settled (Ok tt) t leads =
      let keeps = settle_keeps g multi out.served.items out.stale.items a b t in
      let writes : written b.events ≡ written n.events = keeps.same ∙ ap written (sym events) in
      record {
        call = record {
          ok = λ o s.
              let j = joined.ok o s in
              (part_call told g n (settled_at n cs b) (to_settle n.events out) no_loose a.led b.led w (Ok tt) refl
              writes (leads g n cs same clients cache events j.1)).ok o j.0;
          err = λ o s. tt;
        };
        less = λ o s.
            let x = joined.less o s in
            let at : measure g n.events a.led ≡ measure g a.events a.led =
            ap (λ (v : List Event). measure g v a.led) events in
            let stays = keeps.stays in
            let no_more = x.stays in
            record {
              stays = omega (arith, stays, at, no_more);
              falls = λ open_still. let less = x.falls open_still in omega (arith, stays, at, less);
            };
        counts = record {
          planned_is = keeps.counts.planned_is ∙ counts.planned_is;
          admitted_is = keeps.counts.admitted_is ∙ counts.admitted_is;
        };
      }

-- what settling needs of a join
pub record CanSettle (es : List Event) (o : Outcome) : Type 0 where
  pub running : IsRunning es
  pub stale : AreStale es o.stale.items

-- such a run can join
pub can_join : {S : Type 0} (told : S → SinkTold) (g : Setup) (a : Joining S) → CanWork told g a
    → CanJoin told a.clients a.cache a.signal a.events a.led a.writer
can_join told g a can = record {
  setup = g;
  start = can.run.start;
  moment = can.moment;
  clients_are = can.at.clients;
  cache_is = can.at.cache;
  signal_is = can.at.signal;
  events_are = can.at.events;
  steady = can.run.steady;
}

pub can_settle : {S : Type 0} (told : S → SinkTold) (g : Setup) (tries : ℕ) (a y : Joining S) (out : Outcome)
    → g.tries ≡ tries → CanWork told g a → JoinLeads told tries a y (Ok out) → CanSettle y.events out
can_settle told g tries a y out few can joined =
    let at = can.at in
    let after = (joined g can.moment few at.clients at.cache at.signal at.events).ok can.run.start can.run.steady in
    let led = after.0.going.led in
    record { running = led.running; stale = led.stale_are }

-- the outcome of a join was settled by the first connection
pub work_leads : {S : Type 0} (told : S → SinkTold) (g : Setup) (tries : ℕ) (multi : Bool) (out : Outcome)
    (a y z : Joining S) (answer : Answer) → g.tries ≡ tries → g.multirange ≡ multi → JoinLeads told tries a y (Ok out)
    → FirstSettled multi out y.clients z.clients y.cache z.cache y.events z.events y.led z.led answer
    → z.signal ≡ y.signal → z.writer ≡ y.writer → SameCounts a.led y.led → WorkLeads told g a z answer
work_leads {S = S} told g tries multi out a y z answer few same joined f signal writer counts m at =
    let n : Moment = seen_at told m y in
    let before : Reached = record { client = f.first; cache = y.cache; events = y.events; led = y.led } in
    let after : Reached = record { client = f.next; cache = z.cache; events = z.events; led = z.led } in
    let Leads : Moment → Sequential S → Type 0 = λ p w. WorkCall told g m p a.led z.led a.writer w answer in
    let To : List ClientTold → SignalTold → Sequential S → Type 0 = λ ds x w. Leads (record {
      told = record n.told { clients = ds; cache = z.cache; signal = x; sink = told w.sink };
      events = z.events;
    }) w in
    let join : JoinLead told g m n a.led y.led a.writer y.writer (Ok out) =
    joined g m few at.clients at.cache at.signal at.events in
    let first : To (f.next ∷ f.others) y.signal y.writer =
    work_settled told g m n a.led a.writer y.writer multi out f.others before after same f.before refl refl join
    counts answer f.turn f.leads in
    let with_clients : To z.clients y.signal y.writer =
    subst (λ (v : List ClientTold). To v y.signal y.writer) (sym f.after) first in
    let with_signal : To z.clients z.signal y.writer =
    subst (λ (v : SignalTold). To z.clients v y.writer) (sym signal) with_clients in
    subst (λ (v : Sequential S). To z.clients z.signal v) (sym writer) with_signal

-- the join failed
pub work_fails : {S : Type 0} (told : S → SinkTold) (g : Setup) (tries : ℕ) (a z : Joining S)
    (e : FileReconstructionError) → g.tries ≡ tries → JoinLeads told tries a z (Err e) → WorkLeads told g a z (Err e)
work_fails told g tries a z e few joined m at = record {
  call = record {
    ok = λ b s. tt;
    err = λ b s. (joined g m few at.clients at.cache at.signal at.events).err b s;
  };
  less = λ b s. tt;
  counts = tt;
}
