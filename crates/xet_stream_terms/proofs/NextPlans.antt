-- A stream after a plan was asked for, and taken.
use Rattle.std.proofs.Common.{◌≡◌, inl, inr, ℕ, ◌+◌, ◌-◌, ◌||◌, ◌==◌, Bool, true, false, cond, List, [], ◌∷◌, ◌++◌, length, take, drop, refl, sym, subst, ◌∙◌, ap, arith, ⊎_elim, Option, Some, None, Ok, length-append}
use Rattle.std.specs.Prelude.{filter, map, nat_le, nat_lt, slice_get}
use Rattle.std.proofs.lemmas.Bool.{eqb-true, or_cases}
use Rattle.std.proofs.lemmas.Bool.Decides.{nat_tests}
use Rattle.std.proofs.lemmas.List.{drop-append-le, length-take-le, map-append}
use Rattle.std.proofs.lemmas.List.Elements.{All-cons, All-nil, filter-append}
use Rattle.xet_base.specs.declared.cas_types.FileRange.{FileRange}
use Rattle.xet_base.specs.Store.{Store}
use Rattle.xet_outside.specs.Told.{CacheTold, ClientTold, SignalTold}
use Rattle.xet_blocks.specs.declared.reconstruction_terms.file_term.TermBlock.{TermBlock}
use Rattle.xet_events.specs.declared.event.Event.{Event}
use Rattle.xet_events.specs.declared.event.PlannedBlock.{PlannedBlock}
use Rattle.xet_events.specs.declared.event.PlannedTerm.{PlannedTerm}
use Rattle.xet_events.specs.Allowed.{Adjoin, IsAllowed, IsAllowedHistory}
use Rattle.xet_events.specs.Events.{Task, last_of, plan_count, planned, size, tasks_in, tasks_of}
use Rattle.xet_events.proofs.CallerLemmas.{flat-push, last_of-append, planned-push}
use Rattle.xet_history.specs.TrueHistory.{IsTrueEvent, IsTrueHistory, ReachesEnd, SomeEndsEarly, queries, queries_end, queries_in}
use Rattle.xet_terms.specs.Managers.{Manager, accepted, ends_early, known_after}
use Rattle.xet_ties.specs.Saids.{has_bytes}
use Rattle.xet_ties.specs.Setup.{ClientGoesOn, EachGoesOn, IsOver, RunTold, Setup, download_of}
use Rattle.xet_ties.specs.PartCalls.{blocks_of_answer, plan_event, terms_in}
use Rattle.xet_ties.specs.Ties.{FirstStarts}
use Rattle.xet_ties.proofs.CallerLemmas.{answer_makes, past_none}
use Rattle.xet_stream_terms.proofs.TrueAnswers.{asked_stays, made_true}
use Rattle.xet_parts.proofs.CallerLemmas.{query_within}
use Rattle.xet_leader.specs.declared.leader.Job.{Job}
use Rattle.xet_leader.specs.declared.leader.LedPlan.{LedPlan}
use Rattle.xet_leader.specs.Asking.{DueAsked, HandsOn, JoinsPlans}
use Rattle.xet_leader.specs.Led.{Led, setup_of_job}
use Rattle.xet_leader.specs.LedTerms.{NoneHas, ahead, task_of}
use Rattle.xet_leader.proofs.CallerLemmas.{IsDue, due_allowed, due_cuts, due_first, due_place, led_due}
use Rattle.xet_stream_terms.specs.Planning.{IsMarked}
use Rattle.xet_stream_rules.specs.StepTold.{AsksFirst, IsOf}
use Rattle.xet_stream_rules.specs.Streams.{Carries, nobody}
use Rattle.xet_stream_rules.specs.Moments.{Goes, Lasts, at}
use Rattle.xet_stream_terms.specs.Planning.{Plans}
use Rattle.xet_stream_terms.specs.steps.Asking.{ends_by, is_end, is_last}
use Rattle.xet_stream_terms.specs.PlanParts.{PlanPart}
use Rattle.xet_stream_terms.proofs.Carrying.{carries_planned, due_number}
use Rattle.xet_stream_rules.proofs.CallerLemmas.{each_same, tells_on, true_more}
use Rattle.xet_stream_rules.proofs.CallerLemmas.{last_at, plans_asked}
use Rattle.xet_stream_rules.proofs.CallerLemmas.{none_some, rest_tasks}

-- ---- terms that adjoin

first_adjoins : (lo place n m : ℕ) (ts : List PlannedTerm) (bs : List PlannedBlock) → Adjoin place m ts → place ≡ lo
    → FirstStarts lo (tasks_of n ts bs)
first_adjoins lo place n m [] bs a e = tt
first_adjoins lo place n m (t ∷ ts) bs a e = a.0 ∙ e

starts_push : (place : ℕ) (ts us : List Task) → FirstStarts place ts → (ts ≡ [] → FirstStarts place us)
    → FirstStarts place (ts ++ us)
starts_push place [] us a b = b refl
starts_push place (t ∷ ts) us a b = a

right_empty : {A : Type 0} (xs ys : List A) → xs ++ ys ≡ [] → ys ≡ []
right_empty [] ys e = e
right_empty (x ∷ xs) ys e = absurd (cc)

-- a plan's term among the planned ones
abbrev one_task : ℕ → PlannedTerm → List PlannedBlock → Task
one_task n t bs = record { plan = n; term = t; blocks = bs }

-- terms that have no bytes end where they start
empty_end : (place n m : ℕ) (ts : List PlannedTerm) (bs : List PlannedBlock) → Adjoin place m ts
    → filter has_bytes (tasks_of n ts bs) ≡ [] → last_of place (map (λ (t : PlannedTerm). t.byte_range.end) ts) ≡ place
empty_end place n m [] bs a e = refl
empty_end place n m (t ∷ ts) bs a e = by (empty_end t.byte_range.end n m ts bs a.3) (has_bytes (one_task n t bs)) refl
  where
    by : (filter has_bytes (tasks_of n ts bs) ≡ []
        → last_of t.byte_range.end (map (λ (u : PlannedTerm). u.byte_range.end) ts) ≡ t.byte_range.end)
        → (v : Bool) → has_bytes (one_task n t bs) ≡ v
        → last_of place (map (λ (u : PlannedTerm). u.byte_range.end) (t ∷ ts)) ≡ place
    by r true h = absurd (let z = sym (ap (λ (v : Bool). cond v (one_task n t bs ∷ filter has_bytes (tasks_of n ts bs))
        (filter has_bytes (tasks_of n ts bs))) h) ∙ e in cc)
    by r false h =
        let rest : filter has_bytes (tasks_of n ts bs) ≡ [] =
        sym (ap (λ (v : Bool). cond v (one_task n t bs ∷ filter has_bytes (tasks_of n ts bs))
        (filter has_bytes (tasks_of n ts bs))) h) ∙ e in
        let start = a.0 in
        let forward = a.1 in
        let none : size (one_task n t bs) ≡ 0 = grind (arith, nat_tests) in
        r rest ∙ omega (arith, start, forward, none)

-- ---- one more plan

-- the last of some plans and one more
last_plan : (ls : List LedPlan) (x : LedPlan) → slice_get (ls ++ x ∷ []) (length (ls ++ x ∷ []) - 1) ≡ Some x
last_plan ls x =
    let n : length (ls ++ x ∷ []) - 1 ≡ length ls = (let e = length-append ls (x ∷ []) in omega (arith, e)) in
    ap (λ (k : ℕ). slice_get (ls ++ x ∷ []) k) n ∙ last_at ls x

module _ (j : Job) (es : List Event) (l : Led) (c : Carries nobody (setup_of_job j) es l)
    (cs ns : List ClientTold) (fs : List Event) (x y : SignalTold) (d : DueAsked j cs ns x y es fs l.manager (Ok tt))
  where
    abbrev g : Setup
    g = setup_of_job j

    abbrev q : FileRange
    q = d.due.query

    abbrev middle : Manager
    middle = d.middle

    abbrev now : Manager
    now = d.now

    abbrev answer : Option TermBlock
    answer = d.asked.call.ok.answer

    abbrev event : Event
    event = plan_event es q answer

    pub due : IsDue g es middle q
    due = led_due g es l.manager middle d.due c.led.manager d.one.takes

    pub added : fs ≡ es ++ event ∷ []
    added = d.asked.call.ok.took.recorded

    first_on : ClientGoesOn d.asked.first d.asked.next
    first_on =
        let call = d.asked.call.ok.call in
        record { store = call.store; link = call.link; faults = call.faults; expiries = call.expiries }

    pub on : EachGoesOn cs ns
    on =
        let f = d.asked in
        subst (λ (ps : List ClientTold). EachGoesOn ps ns) (sym f.before)
        (subst (λ (bs : List ClientTold). EachGoesOn (f.first ∷ f.others) bs) (sym f.after)
        (first_on, each_same f.others))

    first_tells : (s : Store) → IsOver s cs → d.asked.first.store ≡ Some s
    first_tells s over = (subst (λ (ps : List ClientTold). IsOver s ps) d.asked.before over).tell.0

    pub asks : AsksFirst g.file q cs ns
    asks =
        let f = d.asked in
        record {
          first = f.first;
          next = f.next;
          others = f.others;
          before = f.before;
          after = f.after;
          goes_on = first_on;
          served = f.call.ok.call.served;
          asks = f.call.ok.call.asks;
        }

    true_event : (s : Store) → IsOver s cs → IsTrueEvent s g.file g.multirange event
    true_event s over =
        let made = d.asked.call.ok.call.made in
        made_true s g q (plan_count es + 1) (terms_in answer) (blocks_of_answer answer) made.plan
        (past_none s over.valid g.file q) (made.honest s (first_tells s over))
        (answer_makes g q d.due.id made.plan answer made.from)

    may : IsAllowed es event
    may =
        let f = d.asked in
        due_allowed g es middle q d.due.id c.led.running due f.first f.next answer f.call.ok.call.made
        f.call.ok.took.within

    adjoins : Adjoin q.start (length (blocks_of_answer answer)) (terms_in answer)
    adjoins = subst (λ (p : ℕ). Adjoin p (length (blocks_of_answer answer)) (terms_in answer))
        (due_place g es middle q due) may.2

    pub lasts : (kk : CacheTold) (k : Led) → Lasts g (at es l cs kk) (at fs k ns kk)
    lasts kk k = record {
      goes_on = on;
      tells = λ b t. tells_on b cs ns kk kk on (λ s _ _ h. h) t;
      true_of = λ s over h. subst (IsTrueHistory s (download_of g)) (sym added)
          (true_more s (download_of g) es event (due_cuts g es middle q due).from (true_event s over) h);
      starts = λ h. subst (λ (e : List Event). FirstStarts g.range.start (planned e)) (sym added)
          (subst (λ (ts : List Task). FirstStarts g.range.start ts) (sym (planned-push es event))
          (starts_push g.range.start (planned es) (tasks_in event) h
          (λ none. first_adjoins g.range.start q.start (plan_count es + 1) (length (blocks_of_answer answer))
          (terms_in answer) (blocks_of_answer answer) adjoins (due_first g es middle q due none))));
    }

    -- the part of a step that it is
    abbrev pub plan_recorded : (kk : CacheTold) (k : Led) → PlanPart g (at es l cs kk) (at fs k ns kk)
    plan_recorded kk k = record {
      asked = Some q;
      calls = asks;
      new = event ∷ [];
      added = added;
      plans = 1;
      counts = record {
        plans_are = refl;
        cached_are = refl;
        fetched_are = refl;
        late_are = refl;
        refreshes_are = refl;
        pieces_are = refl;
        running_is = refl;
      };
      few = omega arith;
      of_it = λ lane block again. All-cons (IsOf lane (record { plan = Some q; block = block; again = again })) event []
          refl (All-nil (IsOf lane (record { plan = Some q; block = block; again = again })));
      no_limits = refl;
      lasts = lasts kk k;
      cache = refl;
    }

    -- and its terms are handed out
    module _ (allowed : IsAllowedHistory es) (k : Led)
        (hands : HandsOn d.due.id.plan (record l { manager = d.now }) k d.now.waiting) where
      carries : (b : RunTold) → ((s : Store) → IsOver s b.clients → IsOver s cs) → Carries b g es l → Carries b g fs k
      carries b t a =
          let f = d.asked in
          carries_planned b g es l a allowed middle now d.due d.one.takes f.first f.next
          (λ s over. first_tells s (t s over)) fs f.call k hands

      pub goes : (kk : CacheTold) → Goes g (at es l cs kk) (at fs k ns kk)
      goes kk = record { lasts = lasts kk k; carries = λ b t a. carries b t.clients a }

      pub after : Carries nobody g fs k
      after = carries nobody (λ s over. absurd (let e : None ≡ Some s = over.tell.0 in cc)) c

      -- ---- where the range is planned to its end

      ends_at : queries_end fs g.range.start ≡ q.end
      ends_at =
          let push : queries fs ≡ queries es ++ q ∷ [] = ap queries added ∙ flat-push queries_in es event in
          ap (λ (qs : List FileRange). last_of g.range.start (map (λ r. r.end) qs)) push
          ∙ ap (λ (ends : List ℕ). last_of g.range.start ends) (map-append (λ (r : FileRange). r.end) (queries es) (q ∷ []))
          ∙ last_of-append g.range.start (map (λ r. r.end) (queries es)) (q.end ∷ [])

      ended_is : k.manager.ended ≡ ends_early q answer
      ended_is =
          let taken : now.ended ≡ ends_early q answer =
          ap (λ (m : Manager). m.ended) d.asked.call.ok.took.taken
          ∙ ap (λ (v : Bool). v || ends_early q answer) due.unended in
          handed now.waiting hands ∙ taken
        where
          handed : (ws : List TermBlock) → HandsOn d.due.id.plan (record l { manager = now }) k ws
              → k.manager.ended ≡ now.ended
          handed [] h = ap (λ (z : Led). z.manager.ended) h
          handed (w ∷ ws) h = ap (λ (z : Led). z.manager.ended) h.led

      early : ends_early q answer ≡ true → ReachesEnd g.range fs
      early e = inr (after.led.manager.early (ended_is ∙ e))

      not_early : ends_early q answer ≡ false → SomeEndsEarly fs → ⊥
      not_early e = after.led.manager.goes_on (ended_is ∙ e)

      -- the query stands at its plan's number
      query_at : slice_get now.queries (d.due.id.plan - 1) ≡ Some q
      query_at =
          let number = due_number g es l.manager middle d.due c.led.manager d.one.takes in
          let plans : plan_count es ≡ length (take middle.answered middle.queries) =
          plans_asked es ∙ ap length due.queries_are in
          let within = due.kept.answered_within in
          let below = due.kept.asked_within in
          let count = length-take-le middle.answered middle.queries (omega (arith, within, below)) in
          let place : d.due.id.plan - 1 ≡ middle.answered = omega (arith, number, plans, count) in
          let one = due.one in
          ap (λ (n : ℕ). slice_get now.queries n) place
          ∙ ap (λ (m : Manager). slice_get m.queries middle.answered) d.asked.call.ok.took.taken
          ∙ asked_stays middle.asked (known_after middle.known_end q answer) middle.queries middle.answered q
          (omega (arith, one)) due.at

      abbrev mark : Bool
      mark = is_last (length l.plans) g.range.end k

      mark_none : now.waiting ≡ [] → mark ≡ true
      mark_none none =
          let same : k ≡ record l { manager = now } =
          subst (λ (ws : List TermBlock). HandsOn d.due.id.plan (record l { manager = now }) k ws) none hands in
          let le : nat_le (length k.plans) (length l.plans) ≡ true =
          ap (λ (z : Led). nat_le (length z.plans) (length l.plans)) same ∙ grind (arith, nat_tests) in
          ap (λ (v : Bool). cond v true (is_end g.range.end k.manager.queries (slice_get k.plans (length k.plans - 1)))) le

      mark_some : (w : TermBlock) → now.waiting ≡ w ∷ []
          → mark ≡ (nat_lt w.byte_range.end q.end || (q.end == g.range.end))
      mark_some w one =
          let h : JoinsPlans d.due.id.plan (record l { manager = now }) k w [] =
          subst (λ (ws : List TermBlock). HandsOn d.due.id.plan (record l { manager = now }) k ws) one hands in
          let plans : k.plans ≡ l.plans ++ h.added ∷ [] = ap (λ (z : Led). z.plans) h.led in
          let qs : k.manager.queries ≡ now.queries = ap (λ (z : Led). z.manager.queries) h.led in
          let longer = length-append l.plans (h.added ∷ []) in
          let le : nat_le (length (l.plans ++ h.added ∷ [])) (length l.plans) ≡ false = grind (arith, nat_tests, longer) in
          let e = g.range.end in
          ap (λ (ls : List LedPlan). cond (nat_le (length ls) (length l.plans)) true
          (is_end e k.manager.queries (slice_get ls (length ls - 1)))) plans
          ∙ ap (λ (v : Bool). cond v true
          (is_end e k.manager.queries (slice_get (l.plans ++ h.added ∷ []) (length (l.plans ++ h.added ∷ []) - 1)))) le
          ∙ ap (λ (p : Option LedPlan). is_end e k.manager.queries p) (last_plan l.plans h.added)
          ∙ ap (λ (r : List FileRange). ends_by e h.added (slice_get r (h.added.number - 1))) qs
          ∙ ap (λ (n : ℕ). ends_by e h.added (slice_get now.queries (n - 1))) h.is.number_is
          ∙ ap (λ (r : Option FileRange). ends_by e h.added r) query_at
          ∙ ap (λ (b : TermBlock). nat_lt b.byte_range.end q.end || (q.end == e)) h.is.block_is

      waiting_is : now.waiting ≡ (accepted middle q answer).waiting
      waiting_is = ap (λ (m : Manager). m.waiting) d.asked.call.ok.took.taken

      pub marked : IsMarked g.range fs mark
      marked = by answer refl
        where
          by : (a : Option TermBlock) → answer ≡ a → IsMarked g.range fs mark
          by None e =
              let none : now.waiting ≡ [] = waiting_is ∙ ap (λ (t : Option TermBlock). (accepted middle q t).waiting) e
              ∙ due.none_waits in
              let yes = mark_none none in
              record {
                yes = λ _. early (ap (ends_early q) e);
                no = λ h. absurd (let z : true ≡ false = sym yes ∙ h in cc);
              }
          by (Some w) e =
              let one : now.waiting ≡ w ∷ [] = waiting_is ∙ ap (λ (t : Option TermBlock). (accepted middle q t).waiting) e
              ∙ ap (λ (ws : List TermBlock). ws ++ w ∷ []) due.none_waits in
              let is = mark_some w one in
              let ends : ends_early q answer ≡ nat_lt w.byte_range.end q.end = ap (ends_early q) e in
              record {
                yes = λ h. ⊎_elim
                    (λ (z : nat_lt w.byte_range.end q.end ≡ true). early (ends ∙ z))
                    (λ (z : (q.end == g.range.end) ≡ true). inl (ends_at ∙ eqb-true q.end g.range.end z))
                    (or_cases (nat_lt w.byte_range.end q.end) (q.end == g.range.end) (sym is ∙ h));
                no = λ h r.
                    let off : (nat_lt w.byte_range.end q.end || (q.end == g.range.end)) ≡ false = sym is ∙ h in
                    ⊎_elim
                    (λ (z : queries_end fs g.range.start ≡ g.range.end).
                    let end : q.end ≡ g.range.end = sym ends_at ∙ z in
                    let on : (q.end == g.range.end) ≡ true = grind (arith, nat_tests) in
                    absurd (or_off (nat_lt w.byte_range.end q.end) (q.end == g.range.end) off on))
                    (λ (z : SomeEndsEarly fs). not_early (ends ∙ left_off (nat_lt w.byte_range.end q.end) (q.end == g.range.end) off) z)
                    r;
              }
            where
              or_off : (u v : Bool) → (u || v) ≡ false → v ≡ true → ⊥
              or_off true v h e = absurd (cc)
              or_off false v h e = let z : false ≡ true = sym h ∙ e in cc

              left_off : (u v : Bool) → (u || v) ≡ false → u ≡ false
              left_off true v h = absurd (cc)
              left_off false v h = refl

      -- a plan without a term that has bytes ended early
      pub none_reaches : NoneHas (ahead k) → ReachesEnd g.range fs
      none_reaches none =
          let all : filter has_bytes (drop k.finished (planned fs)) ≡ [] =
          rest_tasks nobody g fs k after ∙ ap (map task_of) (none_some (ahead k) none) in
          let f : k.finished ≡ l.finished = same_finished now.waiting hands in
          let tasks : planned fs ≡ planned es ++ tasks_in event = ap planned added ∙ planned-push es event in
          let w = c.led.counted.finished_within in
          let a = c.led.counted.admitted_within in
          let p = c.led.counted.planned_are in
          let parts : drop k.finished (planned fs) ≡ drop l.finished (planned es) ++ tasks_in event =
          ap (λ (n : ℕ). drop n (planned fs)) f ∙ ap (λ (ts : List Task). drop l.finished ts) tasks
          ∙ drop-append-le l.finished (planned es) (tasks_in event) (omega (arith, w, a, p)) in
          let own : filter has_bytes (tasks_in event) ≡ [] =
          right_empty (filter has_bytes (drop l.finished (planned es))) (filter has_bytes (tasks_in event))
          (sym (filter-append has_bytes (drop l.finished (planned es)) (tasks_in event))
          ∙ sym (ap (λ (ts : List Task). filter has_bytes ts) parts) ∙ all) in
          let at_start = empty_end q.start (plan_count es + 1) (length (blocks_of_answer answer)) (terms_in answer)
          (blocks_of_answer answer) adjoins own in
          let forward = (query_within g (queries es) q (due_cuts g es middle q due)).1 in
          inr (subst SomeEndsEarly (sym added) (some_right es event (inl (omega (arith, at_start, forward)))))
        where
          same_finished : (ws : List TermBlock) → HandsOn d.due.id.plan (record l { manager = now }) k ws
              → k.finished ≡ l.finished
          same_finished [] h = ap (λ (z : Led). z.finished) h
          same_finished (w ∷ ws) h = ap (λ (z : Led). z.finished) h.led

          some_right : (ps : List Event) (e : Event) → SomeEndsEarly (e ∷ []) → SomeEndsEarly (ps ++ e ∷ [])
          some_right [] e h = h
          some_right (z ∷ ps) e h = inr (some_right ps e h)

      same_count : (P : Led → ℕ) → ((z : Led) (m : Manager) → P (record z { manager = m }) ≡ P z)
          → ((z : Led) (m : Manager) (ls : List LedPlan) (n : ℕ)
          → P (record z { manager = m; plans = ls; planned = n }) ≡ P z) → (ws : List TermBlock)
          → HandsOn d.due.id.plan (record l { manager = now }) k ws → P k ≡ P l
      same_count P one more [] h = ap P h ∙ one l now
      same_count P one more (w ∷ ws) h = ap P h.led ∙ more l _ _ _

      pub planned_once : (kk : CacheTold) → Plans g (at es l cs kk) (at fs k ns kk)
      planned_once kk = record {
        asked = Some q;
        calls = asks;
        new = event ∷ [];
        added = added;
        is = (plan_count es + 1, terms_in answer, blocks_of_answer answer, refl);
        goes = goes kk;
        finished = same_count (λ z. z.finished) (λ z m. refl) (λ z m ls n. refl) now.waiting hands;
        fetches = same_count (λ z. z.fetches) (λ z m. refl) (λ z m ls n. refl) now.waiting hands;
      }
