-- A stream's leader after a plan was asked for and taken, and after its next piece.
use Rattle.std.proofs.Common.{◌≡◌, ℕ, ◌+◌, ◌≤◌, Bool, false, cond, List, [], ◌∷◌, ◌++◌, length, take, refl, sym, subst, ◌∙◌, ap, arith, Option, Some, Ok, length-append}
use Rattle.std.specs.Prelude.{count_by, filter, map}
use Rattle.std.proofs.lemmas.List.{append-nil, length-take-le, map-append, take-append-le}
use Rattle.xet_base.specs.declared.cas_types.FileRange.{FileRange}
use Rattle.xet_base.specs.declared.unique_id.UniqueId.{UniqueId}
use Rattle.xet_base.specs.Store.{Store}
use Rattle.xet_outside.specs.Answers.{bytes_in, plans_in}
use Rattle.xet_outside.specs.Told.{ClientTold, Query}
use Rattle.xet_outside.specs.declared.plan.PlanAnswer.{PlanAnswer}
use Rattle.xet_outside.specs.declared.said.Said.TheVariants as said
use Rattle.xet_outside.proofs.CallerLemmas.{bytes_both, plans_both}
use Rattle.xet_blocks.specs.declared.reconstruction_terms.file_term.TermBlock.{TermBlock}
use Rattle.xet_events.specs.declared.event.Event.{Event}
use Rattle.xet_events.specs.Allowed.{IsAllowedHistory}
use Rattle.xet_events.specs.Events.{Task, plan_count, planned}
use Rattle.xet_events.proofs.CallerLemmas.{flat-push, planned-push}
use Rattle.xet_history.specs.TrueHistory.{queries, queries_in}
use Rattle.xet_terms.specs.Managers.{Manager}
use Rattle.xet_terms.specs.declared.manager.PlanDue.{PlanDue}
use Rattle.xet_terms.proofs.CallerLemmas.{looked_same}
use Rattle.xet_parts.specs.DueQueries.{TakesDue}
use Rattle.xet_parts.specs.PlanAsks.{AskPlanCall}
use Rattle.xet_ties.specs.InCall.{Exchange}
use Rattle.xet_ties.specs.Saids.{IsCutAnswer, has_bytes}
use Rattle.xet_ties.specs.Setup.{IsOver, RunTold, Setup}
use Rattle.xet_ties.specs.Moves.{heard_first}
use Rattle.xet_ties.specs.PartCalls.{plan_event, plan_query}
use Rattle.xet_ties.specs.Ties.{Slack}
use Rattle.xet_leader.specs.Asking.{HandsOn}
use Rattle.xet_leader.specs.Led.{IsLed, IsLedManager, Led}
use Rattle.xet_leader.proofs.CallerLemmas.{IsDue, due_cuts, led_due, led_planned, none_later}
use Rattle.xet_stream_rules.specs.Streams.{Carries, delivered, is_wrote}
use Rattle.xet_stream_rules.proofs.CallerLemmas.{logged, plans_asked}
use Rattle.xet_stream_rules.proofs.CallerLemmas.{count_by-append}

-- ---- the query that is due, by its manager alone

pub due_number : (g : Setup) (es : List Event) (m middle : Manager) (d : PlanDue) → IsLedManager g es m
    → TakesDue m middle d → d.id.plan ≡ plan_count es + 1
due_number g es m middle d led t =
    let same : t.looked ≡ record m { queries = t.looked.queries } = looked_same m t.looked t.policy t.is in
    let asked : t.looked.asked ≡ m.asked = ap (λ (z : Manager). z.asked) same in
    let idle = led.idle in
    let own : d.id.plan ≡ t.looked.asked + 1 = ap (λ (z : UniqueId). z.plan) t.id in
    let within = led.kept.answered_within in
    let below = led.kept.asked_within in
    let count = length-take-le m.answered m.queries (omega (arith, within, below)) in
    let plans : plan_count es ≡ length (take m.answered m.queries) = plans_asked es ∙ ap length led.queries_are in
    omega (arith, own, asked, idle, count, plans)

pub due_unended : (g : Setup) (es : List Event) (m middle : Manager) (d : PlanDue) → IsLedManager g es m
    → TakesDue m middle d → m.ended ≡ false
due_unended g es m middle d led t =
    let same : t.looked ≡ record m { queries = t.looked.queries } = looked_same m t.looked t.policy t.is in
    sym (ap (λ (z : Manager). z.ended) same) ∙ sym (ap (λ (z : Manager). z.ended) t.asked)
    ∙ (led_due g es m middle d led t).unended

-- a plan that is handed out leaves the finished terms
hands_finished : (n : ℕ) (l k : Led) (ws : List TermBlock) → HandsOn n l k ws → k.finished ≡ l.finished
hands_finished n l k [] h = ap (λ (z : Led). z.finished) h
hands_finished n l k (b ∷ ws) h = ap (λ (z : Led). z.finished) h.led

-- as many pieces as finished terms with bytes, where terms are planned and none is delivered
whole_more : (es : List Event) (e : Event) (n m : ℕ) → is_wrote e ≡ false → m ≡ n → n ≤ length (planned es)
    → length (filter has_bytes (take n (planned es))) ≡ delivered es
    → length (filter has_bytes (take m (planned (es ++ e ∷ [])))) ≡ delivered (es ++ e ∷ [])
whole_more es e n m quiet same within h =
    let p : take m (planned (es ++ e ∷ [])) ≡ take n (planned es) =
    ap (λ (i : ℕ). take i (planned (es ++ e ∷ []))) same ∙ ap (λ (l : List Task). take n l) (planned-push es e)
    ∙ take-append-le n (planned es) _ within in
    let d = count_by-append is_wrote es (e ∷ []) in
    let none : count_by is_wrote (e ∷ []) ≡ 0 = none_of quiet in
    ap (λ (l : List Task). length (filter has_bytes l)) p ∙ h ∙ omega (arith, d, none)
  where
    none_of : is_wrote e ≡ false → count_by is_wrote (e ∷ []) ≡ 0
    none_of q = ap (λ (v : Bool). 0 + cond v 1 0) q

-- ---- a plan

module _ (b : RunTold) (g : Setup) (es : List Event) (l : Led) (c : Carries b g es l) (allowed : IsAllowedHistory es)
    (middle now : Manager) (d : PlanDue) (takes : TakesDue l.manager middle d) (first next : ClientTold)
    (tells : (s : Store) → IsOver s b.clients → first.store ≡ Some s) (fs : List Event)
    (call : AskPlanCall middle now first next es fs (plan_query g d.query d.id) (Ok tt)) where
  due : IsDue g es middle d.query
  due = led_due g es l.manager middle d c.led.manager takes

  abbrev answer : Option TermBlock
  answer = call.ok.answer

  abbrev plan : PlanAnswer
  plan = call.ok.call.made.plan

  abbrev log : Exchange
  log = record {
    asked = c.log.asked ++ (g.file, d.query) ∷ [];
    served = c.log.served;
    said = c.log.said ++ said.Plan plan ∷ [];
  }

  abbrev slack : Slack
  slack = record c.slack { heard = heard_first ((g.file, d.query) ∷ []) (said.Plan plan ∷ []) c.slack.heard }

  heard : slack.heard ≡ log ∷ []
  heard = ap (heard_first ((g.file, d.query) ∷ []) (said.Plan plan ∷ [])) c.heard

  abbrev event : Event
  event = plan_event es d.query answer

  now_led : (k : Led) → HandsOn d.id.plan (record l { manager = now }) k now.waiting
      → IsLed g b (es ++ event ∷ []) slack [] k
  now_led k hands =
      let took = call.ok.took in
      led_planned g b es c.slack slack middle d.query d.id answer plan l k
      (record {
        due = due;
        from = call.ok.call.made.from;
        heard = record { heard = refl; looks = refl };
        answered = subst (λ (xs : List Exchange). IsCutAnswer g.file xs (plan_count es + 1) d.query plan) (sym heard)
            (logged g es c.log d.query plan (due_cuts g es middle d.query due).from c.asked c.answered);
        none = none_later es (plan_count es + 1) allowed (omega arith);
        own = due_number g es l.manager middle d c.led.manager takes;
        honest = λ s over. call.ok.call.made.honest s (tells s over);
      })
      c.led (due_unended g es l.manager middle d c.led.manager takes)
      (subst (λ (z : Manager). HandsOn d.id.plan (record l { manager = z }) k z.waiting) took.taken hands)

  carried : (k : Led) → HandsOn d.id.plan (record l { manager = now }) k now.waiting
      → Carries b g (es ++ event ∷ []) k
  carried k hands =
      let qs : queries (es ++ event ∷ []) ≡ queries es ++ d.query ∷ [] = flat-push queries_in es event in
      let counted = c.led.counted in
      let planned_are = counted.planned_are in
      let f = counted.finished_within in
      let a = counted.admitted_within in
      let lengths = length-append c.log.asked ((g.file, d.query) ∷ []) in
      let answers = ap length (plans_both c.log.said (said.Plan plan ∷ []))
      ∙ length-append (plans_in c.log.said) (plan ∷ []) in
      let had = c.answered in
      let pairs = c.paired in
      record {
        slack = slack;
        log = log;
        heard = heard;
        asked = ap (λ (xs : List Query). xs ++ (g.file, d.query) ∷ []) c.asked
            ∙ sym (map-append (λ q. (g.file, q)) (queries es) (d.query ∷ []))
            ∙ sym (ap (λ (xs : List FileRange). map (λ q. (g.file, q)) xs) qs);
        answered = omega (arith, lengths, answers, had);
        paired = pairs ∙ sym (ap length (bytes_both c.log.said (said.Plan plan ∷ []) ∙ append-nil (bytes_in c.log.said)));
        led = now_led k hands;
        whole = whole_more es event l.finished k.finished refl
            (hands_finished d.id.plan (record l { manager = now }) k now.waiting hands)
            (omega (arith, planned_are, f, a)) c.whole;
      }

  -- over what is told: a query that was asked and recorded leaves the leader as one of a run
  pub carries_planned : (k : Led) → HandsOn d.id.plan (record l { manager = now }) k now.waiting → Carries b g fs k
  carries_planned k hands =
      subst (λ (x : List Event). Carries b g x k) (sym call.ok.took.recorded) (carried k hands)
