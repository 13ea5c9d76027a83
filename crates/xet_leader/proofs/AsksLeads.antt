-- A run after its leader asked for the plan that was due.
use Rattle.std.proofs.Common.{◌≡◌, ◌+◌, ◌≤◌, Bool, true, false, cond, List, [], ◌∷◌, length, take, refl, sym, subst, ◌∙◌, ap, arith, inl, inr, ⊎_elim, Option, Some, None, Ok, Err, ◌<◌}
use Rattle.std.specs.Prelude.{IfOk, Result, count_by}
use Rattle.std.proofs.lemmas.List.{length-append, length-take-le}
use Rattle.xet_base.specs.declared.unique_id.UniqueId.{UniqueId}
use Rattle.xet_outside.specs.declared.said.Said.TheVariants as said
use Rattle.xet_outside.specs.Told.{AskCall, ClientTold, SignalTold}
use Rattle.xet_outside.proofs.CallerLemmas.{count_by-cons}
use Rattle.xet_error.specs.declared.error.Corruption.TheVariants.{PastKnownEnd}
use Rattle.xet_error.specs.declared.error.FileReconstructionError.{FileReconstructionError}
use Rattle.xet_error.specs.declared.error.FileReconstructionError.TheVariants as error
use Rattle.xet_base.specs.declared.cas_types.FileRange.{FileRange}
use Rattle.xet_blocks.specs.declared.reconstruction_terms.file_term.TermBlock.{TermBlock}
use Rattle.xet_blocks.specs.TermBlockCalls.{TermBlockCause}
use Rattle.xet_events.specs.declared.event.Event.{Event}
use Rattle.xet_events.specs.declared.event.Event.TheVariants.{Planned, Admit, Fetched, Cached, Expired, Refreshed, Wrote, Fail, Cancel}
use Rattle.xet_events.specs.Allowed.{IsAllowedHistory}
use Rattle.xet_events.specs.Events.{is_plan, plan_count, expires}
use Rattle.xet_history.specs.TrueHistory.{queries, queries_in}
use Rattle.xet_terms.specs.Managers.{IsCovered, Manager, PassesKnownEnd}
use Rattle.xet_terms.specs.declared.manager.PlanDue.{PlanDue}
use Rattle.xet_terms.proofs.CallerLemmas.{looked_same}
use Rattle.xet_ties.specs.Saids.{InStep}
use Rattle.xet_ties.specs.Setup.{RunTold, Setup}
use Rattle.xet_ties.specs.Moves.{heard_first}
use Rattle.xet_ties.specs.PartCalls.{plan_query}
use Rattle.xet_ties.specs.Ties.{EachLane, IsFaultless, MayLeave, NoneLate, Slack, Ties, all_of, IsNextQuery}
use Rattle.xet_ties.proofs.CallerLemmas.{asked_own, first_tells, none_hidden, none_late, short_leaves, steady_leaves}
use Rattle.xet_parts.specs.DueQueries.{CancelledDue, NoneDue, OneDue, TakesDue}
use Rattle.xet_parts.specs.PlanAsks.{AskPlanCall, PlanFails, QueryFails}
use Rattle.xet_parts.proofs.CallerLemmas.{AskedCause, ask_cause, asked_ties, cancelled_due_ties, none_due_ties, none_passes, one_due_ties, query_within}
use Rattle.xet_leader.specs.declared.leader.Job.{Job}
use Rattle.xet_leader.specs.Asking.{AskErr, AskLeads, AskTurn, DueAsked, HandsOn, NoneAsked, OneAsked, UntakenDue}
use Rattle.xet_leader.specs.Led.{IsLed, IsLedManager, Led, setup_of_job}
use Rattle.xet_leader.specs.Steady.{IsFailing, IsGoing, Moment, no_loose}
use Rattle.xet_leader.proofs.LedPlanned.{led_planned}
use Rattle.xet_leader.proofs.NewPlans.{none_later}
use Rattle.xet_leader.proofs.NextQueries.{IsDue, due_first, led_due, led_looked, due_next}
use Rattle.xet_leader.proofs.WriterFaults.{any_unfailed}
use Rattle.xet_leader.proofs.Halts.{calm_halted}

-- ---- none was due

-- the leader's manager looked ahead
pub looked_led : (g : Setup) (b : RunTold) (es : List Event) (sl : Slack) (l : Led) (now : Manager) (x y : SignalTold)
    → NoneDue l.manager now x y → IsLed g b es sl [] l → IsLed g b es sl [] (record l { manager = now })
looked_led g b es sl l now x y d a =
    let same : now ≡ record l.manager { queries = now.queries } = looked_same l.manager now d.policy d.is in
    record {
      running = a.running;
      some = a.some;
      tries = a.tries;
      stale_are = tt;
      under = a.under;
      manager = led_looked g es l.manager now d.policy d.is d.kept a.manager;
      plans = record {
        each = a.plans.each;
        follow = a.plans.follow;
        numbered = λ h. a.plans.numbered (sym (ap (λ (m : Manager). m.ended) same) ∙ h);
        last = a.plans.last;
        first = a.plans.first;
      };
      counted = record {
        planned_are = a.counted.planned_are;
        planned_fits = a.counted.planned_fits;
        admitted_are = a.counted.admitted_are;
        finished_within = a.counted.finished_within;
        admitted_within = a.counted.admitted_within;
        written_are = a.counted.written_are;
      };
    }

-- each byte of the range below the known end was asked for then
none_covered : (g : Setup) (es : List Event) (cs ns : List ClientTold) (x y : SignalTold) (fs : List Event)
    (l k : Led) → IsLedManager g es l.manager → NoneAsked cs ns x y es fs l k → IsCovered k.manager
none_covered g es cs ns x y fs l k a n =
    let same : k.manager ≡ record l.manager { queries = k.manager.queries } =
    looked_same l.manager k.manager n.due.policy n.due.is in
    n.due.covered a.kept (ap (λ (m : Manager). m.answered) same ∙ sym a.idle
    ∙ sym (ap (λ (m : Manager). m.asked) same)) (ap (λ (m : Manager). m.waiting) same ∙ a.none_waits)

pub ask_covered : (g : Setup) (j : Job) (cs ns : List ClientTold) (x y : SignalTold) (es fs : List Event) (l k : Led)
    (answer : Result Bool FileReconstructionError) → IsLedManager g es l.manager
    → AskTurn j cs ns x y es fs l k answer
    → IfOk answer (λ asked. asked ≡ false → IsCovered k.manager)
ask_covered g j cs ns x y es fs l k (Ok false) a t = λ e. none_covered g es cs ns x y fs l k a t.ok
ask_covered g j cs ns x y es fs l k (Ok true) a t = λ e. absurd (let z : true ≡ false = e in cc)
ask_covered g j cs ns x y es fs l k (Err e) a t = tt

going_none : (g : Setup) (b : RunTold) (m : Moment) (l k : Led) (cs ns : List ClientTold) (x y : SignalTold)
    (fs : List Event) → m.told.clients ≡ cs → m.told.signal ≡ x → NoneAsked cs ns x y m.events fs l k
    → IsGoing g b m no_loose l
    → IsGoing g b (record { told = record m.told { clients = ns; signal = y }; events = fs }) no_loose k
going_none g b m l k cs ns x y fs at seen n s =
    let clients : m.told.clients ≡ ns = at ∙ sym n.clients in
    let ties = none_due_ties g b m.told m.events s.slack l.manager k.manager x y seen n.due s.ties in
    let led = looked_led g b m.events s.slack l k.manager x y n.due s.led in
    record {
      slack = s.slack;
      ties = subst (λ (es : List Event). Ties g b (record m.told { clients = ns; signal = y }) es None s.slack)
          (sym n.events)
          (subst (λ (c : List ClientTold). Ties g b (record m.told { clients = c; signal = y }) m.events None s.slack)
          clients ties);
      settled = s.settled;
      led = subst (λ (es : List Event). IsLed g b es s.slack [] k) (sym n.events)
          (subst (λ (z : Led). IsLed g b m.events s.slack [] z) (sym n.led) led);
      calm = ap (λ (z : SignalTold). z.yes) (n.due.signal ∙ sym seen) ∙ s.calm;
      unfailed = s.unfailed;
      cache_tells = s.cache_tells;
    }

-- ---- one was due

-- as many plans as queries
one_query : (e : Event) → length (queries_in e) ≡ cond (is_plan e) 1 0
one_query (Planned plan query terms blocks) = refl
one_query (Admit limit) = refl
one_query (Fetched lane plan block) = refl
one_query (Cached plan block) = refl
one_query (Expired lane plan block) = refl
one_query (Refreshed plan) = refl
one_query (Wrote taken) = refl
one_query (Fail error) = refl
one_query Cancel = refl

plans_asked : (es : List Event) → plan_count es ≡ length (queries es)
plans_asked [] = refl
plans_asked (e ∷ es) =
    let next = plans_asked es in
    let one = one_query e in
    let both = length-append (queries_in e) (queries es) in
    count_by-cons is_plan e es ∙ omega (arith, next, one, both)

module _ (g : Setup) (b : RunTold) (m : Moment) (l : Led) (s : IsGoing g b m no_loose l) (x y : SignalTold)
    (seen : m.told.signal ≡ x) where
  -- the query's number
  due_number : (middle : Manager) (d : PlanDue) → TakesDue l.manager middle d → d.id.plan ≡ plan_count m.events + 1
  due_number middle d t =
      let led = s.led.manager in
      let same : t.looked ≡ record l.manager { queries = t.looked.queries } =
      looked_same l.manager t.looked t.policy t.is in
      let asked : t.looked.asked ≡ l.manager.asked = ap (λ (z : Manager). z.asked) same in
      let idle = led.idle in
      let own : d.id.plan ≡ t.looked.asked + 1 = ap (λ (z : UniqueId). z.plan) t.id in
      let within = led.kept.answered_within in
      let below = led.kept.asked_within in
      let count = length-take-le l.manager.answered l.manager.queries (omega (arith, within, below)) in
      let plans : plan_count m.events ≡ length (take l.manager.answered l.manager.queries) =
      plans_asked m.events ∙ ap length led.queries_are in
      omega (arith, own, asked, idle, count, plans)

  due_unended : (middle : Manager) (d : PlanDue) → TakesDue l.manager middle d → l.manager.ended ≡ false
  due_unended middle d t =
      let same : t.looked ≡ record l.manager { queries = t.looked.queries } =
      looked_same l.manager t.looked t.policy t.is in
      sym (ap (λ (z : Manager). z.ended) same) ∙ sym (ap (λ (z : Manager). z.ended) t.asked)
      ∙ (led_due g m.events l.manager middle d s.led.manager t).unended

  calm : (n : SignalTold) → AskCall x n false → n.yes ≡ b.signal.yes
  calm n c = c.no refl ∙ ap (λ (z : SignalTold). z.yes) (sym seen) ∙ s.calm

  -- a slack with this heard and lost leaves nothing else
  leaves : (e : FileReconstructionError) (sl : Slack) → sl.hidden ≡ s.slack.hidden → sl.late ≡ s.slack.late
      → sl.ahead ≡ s.slack.ahead → (IsFaultless (Some e) → sl.calm ≡ length b.clients) → MayLeave (Some e) b.clients sl
  leaves e sl hidden late ahead calm =
      steady_leaves b.clients e sl (ap all_of (hidden ∙ s.settled.hidden) ∙ none_hidden b.clients)
      (subst NoneLate (sym (late ∙ s.settled.late)) (none_late b.clients))
      (ahead ∙ s.settled.ahead) calm

  -- where the signal said no, and the first connection is this one
  module _ (middle now : Manager) (d : PlanDue) (one : OneDue l.manager middle x y d) (c n : ClientTold)
      (others : List ClientTold) (is : m.told.clients ≡ c ∷ others) (fs : List Event) where
    due : IsDue g m.events middle d.query
    due = led_due g m.events l.manager middle d s.led.manager one.takes

    next : IsNextQuery g m.events d.query
    next = due_next g m.events middle d.query due

    abbrev polled : Slack
    polled = record s.slack { spare = s.slack.spare + 1 }

    abbrev quiet : RunTold
    quiet = record m.told { signal = y }

    abbrev told : RunTold
    told = record m.told { clients = n ∷ others; signal = y }

    polled_ties : Ties g b quiet m.events None polled
    polled_ties = one_due_ties g b m.told m.events s.slack l.manager middle x y d seen one s.ties

    lanes : EachLane m.events 0 b.clients (c ∷ others) s.slack.hidden s.slack.late
    lanes = subst (λ (cs : List ClientTold). EachLane m.events 0 b.clients cs s.slack.hidden s.slack.late) is
        s.ties.served.lanes

    module _ (call : AskPlanCall middle now c n m.events fs (plan_query g d.query d.id) (Ok tt)) where
      abbrev slack : Slack
      slack = record s.slack {
        heard = heard_first ((g.file, d.query) ∷ [])
            (said.Plan call.ok.call.made.plan ∷ []) s.slack.heard;
        lost = [];
      }

      recorded : Ties g b told fs None slack × InStep slack.heard
      recorded = asked_ties g b quiet m.events fs polled s.slack.spare c n others middle now d.query d.id is call.ok
          s.settled.lost refl s.settled.step next (due_first g m.events middle d.query due) polled_ties

      led : (k : Led) → IsAllowedHistory m.events → HandsOn d.id.plan (record l { manager = now }) k now.waiting
          → IsLed g b fs slack [] k
      led k allowed hands =
          let a = call.ok.took in
          let t = call.ok.answer in
          subst (λ (es : List Event). IsLed g b es slack [] k) (sym a.recorded)
          (led_planned g b m.events s.slack slack middle d.query d.id t call.ok.call.made.plan l k
          (record {
            due = due;
            from = call.ok.call.made.from;
            heard = record { heard = refl; looks = refl };
            answered = asked_own g b quiet m.events None polled d.query call.ok.call.made.plan polled_ties
                s.settled.lost s.settled.step next;
            none = none_later m.events (plan_count m.events + 1) allowed (omega arith);
            own = due_number middle d one.takes;
            honest = λ st over. call.ok.call.made.honest st
                (first_tells st m.events b.clients c others s.slack.hidden s.slack.late lanes over.tell);
          })
          s.led (due_unended middle d one.takes)
          (subst (λ (z : Manager). HandsOn d.id.plan (record l { manager = z }) k z.waiting) a.taken hands))

      going : (k : Led) → IsAllowedHistory m.events → HandsOn d.id.plan (record l { manager = now }) k now.waiting
          → IsGoing g b (record { told = told; events = fs }) no_loose k
      going k allowed hands = record {
        slack = slack;
        ties = recorded.0;
        settled = record {
          hidden = s.settled.hidden;
          late = s.settled.late;
          lost = refl;
          ahead = s.settled.ahead;
          spare = s.settled.spare;
          pending = s.settled.pending;
          due = s.settled.due;
          step = recorded.1;
          calm = s.settled.calm;
        };
        led = led k allowed hands;
        calm = calm y one.signal;
        unfailed = s.unfailed;
        cache_tells = s.cache_tells;
      }

      -- memory was wanting for its plan
      short : IsFailing g b (record { told = told; events = fs }) error.OutOfMemory
      short = record {
        slack = slack;
        ties = recorded.0;
        left = short_leaves b.clients slack;
        cause = tt;
        unfailed = tt;
        spent = λ h. absurd (let z : error.OutOfMemory ≡ error.UrlExpired = h in cc);
        halted = λ yes. tt;
        under = λ u. absurd u;
        cache_tells = s.cache_tells;
      }

    -- it was asked in vain
    module _ (e : FileReconstructionError) (call : AskPlanCall middle now c n m.events fs (plan_query g d.query d.id)
        (Err e)) where
      unpassed : (t : Option TermBlock) → PassesKnownEnd middle d.query t → ⊥
      unpassed t =
          let within = query_within g (queries m.events) d.query next.cuts in
          none_passes middle d.query t due.kept due.unended within.1
          (subst (λ (r : FileRange). d.query.end ≤ r.end) (sym due.is_for.range) within.2)

      asked : AskedCause g b quiet fs polled (n ∷ others) e
      asked = ask_cause g b quiet m.events fs polled c n others middle now d.query d.id e is call s.settled.lost
          s.settled.step
          (record { calm = s.settled.calm; hidden = ap all_of s.settled.hidden ∙ none_hidden b.clients })
          next unpassed polled_ties

      vain : IsFailing g b (record { told = told; events = fs }) e
      vain = record {
        slack = record polled {
          heard = heard_first asked.queries asked.answers polled.heard;
          lost = asked.queries;
          calm = asked.calm;
        };
        ties = asked.ties;
        left = leaves e (record polled {
          heard = heard_first asked.queries asked.answers polled.heard;
          lost = asked.queries;
          calm = asked.calm;
        }) refl refl refl asked.kept;
        cause = asked.cause;
        unfailed = any_unfailed b.sink.faults m.told.sink.faults e s.unfailed;
        spent = λ h. absurd (other h);
        halted = calm_halted b.signal.yes y.yes e (calm y one.signal);
        under = λ u p k. subst (λ (l : List Event). count_by (expires p k) l < g.tries) (sym same) (s.led.under p k);
        cache_tells = s.cache_tells;
      }
        where
          same : fs ≡ m.events
          same = ⊎_elim
              (λ (f : QueryFails middle now c n m.events fs (plan_query g d.query d.id) e). f.unrecorded)
              (λ (f : PlanFails middle now c n m.events fs (plan_query g d.query d.id) e). f.left.unrecorded)
              call.err

          other : e ≡ error.UrlExpired → ⊥
          other h =
              ⊎_elim
              (λ (f : QueryFails middle now c n m.events fs (plan_query g d.query d.id) e). subst
              (TermBlockCause c n (plan_query g d.query d.id)) h f.call.cause)
              (λ (f : PlanFails middle now c n m.events fs (plan_query g d.query d.id) e).
              ⊎_elim
              (λ (k : e ≡ error.OutOfMemory). let z : error.OutOfMemory ≡ error.UrlExpired = sym k ∙ h in absurd (cc))
              (λ (k : PassesKnownEnd middle d.query f.answer
              × (e ≡ error.CorruptedReconstruction (PastKnownEnd middle.known_end d.query.start))). unpassed
              f.answer k.0)
              f.left.fails)
              call.err

-- ---- all of it

-- what came of the query that was due
going_one : (j : Job) (b : RunTold) (m : Moment) (l k : Led) (cs ns : List ClientTold) (x y : SignalTold)
    (fs : List Event) → m.told.clients ≡ cs → m.told.signal ≡ x → IsAllowedHistory m.events
    → OneAsked j cs ns x y m.events fs l k → IsGoing (setup_of_job j) b m no_loose l
    → IsGoing (setup_of_job j) b (record { told = record m.told { clients = ns; signal = y }; events = fs }) no_loose
    k
going_one j b m l k cs ns x y fs at seen allowed o s =
    let d = o.asked in
    let f = d.asked in
    subst (λ (v : List ClientTold). IsGoing (setup_of_job j) b
    (record { told = record m.told { clients = v; signal = y }; events = fs }) no_loose k) (sym f.after)
    (going (setup_of_job j) b m l s x y seen d.middle d.now d.due d.one f.first f.next f.others
    (at ∙ f.before) fs f.call k allowed o.hands)

failing_short : (j : Job) (b : RunTold) (m : Moment) (l : Led) (cs ns : List ClientTold) (x y : SignalTold)
    (fs : List Event) → m.told.clients ≡ cs → m.told.signal ≡ x → DueAsked j cs ns x y m.events fs l.manager (Ok tt)
    → IsGoing (setup_of_job j) b m no_loose l
    → IsFailing (setup_of_job j) b (record { told = record m.told { clients = ns; signal = y }; events = fs })
    error.OutOfMemory
failing_short j b m l cs ns x y fs at seen d s =
    let f = d.asked in
    subst (λ (v : List ClientTold). IsFailing (setup_of_job j) b
    (record { told = record m.told { clients = v; signal = y }; events = fs }) error.OutOfMemory) (sym f.after)
    (short (setup_of_job j) b m l s x y seen d.middle d.now d.due d.one f.first f.next f.others
    (at ∙ f.before) fs f.call)

failing_vain : (j : Job) (b : RunTold) (m : Moment) (l : Led) (cs ns : List ClientTold) (x y : SignalTold)
    (fs : List Event) (e : FileReconstructionError) → m.told.clients ≡ cs → m.told.signal ≡ x
    → DueAsked j cs ns x y m.events fs l.manager (Err e) → IsGoing (setup_of_job j) b m no_loose l
    → IsFailing (setup_of_job j) b (record { told = record m.told { clients = ns; signal = y }; events = fs }) e
failing_vain j b m l cs ns x y fs e at seen d s =
    let f = d.asked in
    subst (λ (v : List ClientTold). IsFailing (setup_of_job j) b
    (record { told = record m.told { clients = v; signal = y }; events = fs }) e) (sym f.after)
    (vain (setup_of_job j) b m l s x y seen d.middle d.now d.due d.one f.first f.next f.others
    (at ∙ f.before) fs e f.call)

-- no query could be taken: memory was wanting, or the signal said yes
failing_due : (g : Setup) (b : RunTold) (m : Moment) (l : Led) (cs ns : List ClientTold) (x y : SignalTold)
    (fs : List Event) (e : FileReconstructionError) → m.told.clients ≡ cs → m.told.signal ≡ x
    → UntakenDue cs ns x y m.events fs l.manager e → IsGoing g b m no_loose l
    → IsFailing g b (record { told = record m.told { clients = ns; signal = y }; events = fs }) e
failing_due g b m l cs ns x y fs e at seen u s =
    subst (λ (es : List Event). IsFailing g b (record {
      told = record m.told { clients = ns; signal = y };
      events = es;
    }) e) (sym u.events)
    (subst (λ (v : List ClientTold). IsFailing g b
    (record { told = record m.told { clients = v; signal = y }; events = m.events }) e) (at ∙ sym u.clients)
    (⊎_elim
    (λ (h : (e ≡ error.OutOfMemory) × (u.now ≡ l.manager) × (y ≡ x)).
    subst (λ (v : SignalTold). IsFailing g b (record { told = record m.told { signal = v }; events = m.events }) e)
    (seen ∙ sym h.2)
    (subst (λ (v : FileReconstructionError). IsFailing g b m v) (sym h.0) memory))
    (λ (h : (e ≡ error.Cancelled) × CancelledDue l.manager u.now x y).
    subst (λ (v : FileReconstructionError). IsFailing g b
    (record { told = record m.told { signal = y }; events = m.events }) v) (sym h.0) (cancelled h.1))
    u.fails))
  where
    memory : IsFailing g b m error.OutOfMemory
    memory = record {
      slack = s.slack;
      ties = s.ties;
      left = short_leaves b.clients s.slack;
      cause = tt;
      unfailed = tt;
      spent = λ h. absurd (let z : error.OutOfMemory ≡ error.UrlExpired = h in cc);
      halted = λ yes. tt;
      under = λ u. absurd u;
      cache_tells = s.cache_tells;
    }

    cancelled : CancelledDue l.manager u.now x y → IsFailing g b
        (record { told = record m.told { signal = y }; events = m.events }) error.Cancelled
    cancelled c =
        let t = cancelled_due_ties g b m.told m.events s.slack l.manager u.now x y seen c s.ties in
        record {
          slack = s.slack;
          ties = t.0;
          left = leaves g b m l s x y seen error.Cancelled s.slack refl refl refl (λ v. s.settled.calm);
          cause = t.1;
          unfailed = s.unfailed;
          spent = λ h. absurd (let z : error.Cancelled ≡ error.UrlExpired = h in cc);
          halted = λ yes. tt;
          under = λ u. s.led.under;
          cache_tells = s.cache_tells;
        }

failing : (j : Job) (b : RunTold) (m : Moment) (l : Led) (cs ns : List ClientTold) (x y : SignalTold)
    (fs : List Event) (e : FileReconstructionError) → m.told.clients ≡ cs → m.told.signal ≡ x
    → AskErr j cs ns x y m.events fs l.manager e → IsGoing (setup_of_job j) b m no_loose l
    → IsFailing (setup_of_job j) b (record { told = record m.told { clients = ns; signal = y }; events = fs }) e
failing j b m l cs ns x y fs e at seen a s = go a
  where
    go : AskErr j cs ns x y m.events fs l.manager e
        → IsFailing (setup_of_job j) b (record { told = record m.told { clients = ns; signal = y }; events = fs }) e
    go (inl u) = failing_due (setup_of_job j) b m l cs ns x y fs e at seen u s
    go (inr (inl d)) = failing_vain j b m l cs ns x y fs e at seen d s
    go (inr (inr h)) = subst (λ (v : FileReconstructionError). IsFailing (setup_of_job j) b
        (record { told = record m.told { clients = ns; signal = y }; events = fs }) v) (sym h.0)
        (failing_short j b m l cs ns x y fs at seen h.1 s)

pub ask_leads : (j : Job) (cs ns : List ClientTold) (x y : SignalTold) (es fs : List Event) (l k : Led)
    (answer : Result Bool FileReconstructionError) → IsAllowedHistory es → AskTurn j cs ns x y es fs l k answer
    → AskLeads j cs ns x y es fs l k answer
ask_leads j cs ns x y es fs l k (Ok false) allowed t m at seen is = record {
  ok = λ b s. going_none (setup_of_job j) b m l k cs ns x y fs at seen
      (subst (λ (v : List Event). NoneAsked cs ns x y v fs l k) (sym is) t.ok) s;
  err = λ b s. tt;
}
ask_leads j cs ns x y es fs l k (Ok true) allowed t m at seen is = record {
  ok = λ b s. going_one j b m l k cs ns x y fs at seen (subst IsAllowedHistory (sym is) allowed)
      (subst (λ (v : List Event). OneAsked j cs ns x y v fs l k) (sym is) t.ok) s;
  err = λ b s. tt;
}
ask_leads j cs ns x y es fs l k (Err e) allowed t m at seen is = record {
  ok = λ b s. tt;
  err = λ b s. failing j b m l cs ns x y fs e at seen
      (subst (λ (v : List Event). AskErr j cs ns x y v fs l.manager e) (sym is) t.err) s;
}
