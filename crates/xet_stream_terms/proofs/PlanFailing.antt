-- A plan that was asked for in vain.
use Rattle.std.proofs.Common.{◌≡◌, inl, inr, Bool, true, false, ◌≤◌, ◌<◌, List, [], ◌∷◌, length, refl, sym, subst, ◌∙◌, ap, arith, ⊎_elim, Option, Some, None, Ok, Err}
use Rattle.std.specs.Prelude.{IfErr, Result}
use Rattle.std.proofs.lemmas.List.{append-nil}
use Rattle.std.proofs.lemmas.List.Elements.{All-nil}
use Rattle.xet_base.specs.declared.cas_types.FileRange.{FileRange}
use Rattle.xet_base.specs.declared.unique_id.UniqueId.{UniqueId}
use Rattle.xet_base.specs.Store.{IsValid, Store}
use Rattle.xet_outside.specs.Plan.{Shape, shape}
use Rattle.xet_outside.specs.Told.{CacheTold, ClientTold, IsHonest}
use Rattle.xet_outside.specs.declared.plan.Plan.{Plan}
use Rattle.xet_outside.specs.declared.plan.PlanAnswer.{PlanAnswer}
use Rattle.xet_outside.specs.declared.plan.PlanAnswer.TheVariants.{Found, NoFile, PastEnd}
use Rattle.xet_outside.specs.declared.plan.PlanTerm.{PlanTerm}
use Rattle.xet_error.specs.declared.error.Corruption.{Corruption}
use Rattle.xet_error.specs.declared.error.Corruption.TheVariants.{PastKnownEnd}
use Rattle.xet_error.specs.declared.error.FileReconstructionError.{FileReconstructionError}
use Rattle.xet_error.specs.declared.error.FileReconstructionError.TheVariants as error
use Rattle.xet_offers.specs.PlanChecks.{failed_test}
use Rattle.xet_blocks.specs.declared.reconstruction_terms.file_term.TermBlock.{TermBlock}
use Rattle.xet_blocks.specs.PlanQuery.{PlanQuery}
use Rattle.xet_blocks.specs.TermBlockCalls.{FromAnswer, FromSaid, FromTerms, FromTested, QueryAnswered, TermBlockCall, TermBlockCause}
use Rattle.xet_blocks.proofs.CallerLemmas.{honest_accepted}
use Rattle.xet_events.specs.declared.event.Event.{Event}
use Rattle.xet_history.specs.TrueHistory.{queries}
use Rattle.xet_terms.specs.Managers.{PassesKnownEnd}
use Rattle.xet_ties.specs.Causes.{SomeRose}
use Rattle.xet_ties.specs.PartCalls.{plan_query}
use Rattle.xet_ties.specs.Setup.{AllTell, CacheTells, ClientGoesOn, EachGoesOn, Setup}
use Rattle.xet_parts.specs.DueQueries.{CancelledDue}
use Rattle.xet_parts.specs.PlanAsks.{QueryFails}
use Rattle.xet_parts.specs.PlanAsks.{PlanFails as AnswerLeft}
use Rattle.xet_parts.proofs.CallerLemmas.{none_passes, query_within}
use Rattle.xet_leader.specs.declared.leader.Job.{Job}
use Rattle.xet_leader.specs.declared.ahead.NextTerm.{NextTerm}
use Rattle.xet_leader.specs.Asking.{AskErr, AskTurn, DueAsked, FirstAsked, UntakenDue}
use Rattle.xet_leader.specs.Led.{Led, setup_of_job}
use Rattle.xet_leader.proofs.CallerLemmas.{IsDue, due_cuts, led_due}
use Rattle.xet_stream_rules.specs.Pulls.{FirstGoesOn, FirstSaid}
use Rattle.xet_stream_rules.specs.StepTold.{AsksFirst, IsOf, MayAskFirst}
use Rattle.xet_stream_rules.specs.Streams.{Carries, nobody}
use Rattle.xet_stream_rules.specs.MomentCauses.{CauseAt}
use Rattle.xet_stream_terms.specs.PlanParts.{PlanFails, asks_plan}
use Rattle.xet_stream_rules.specs.Moments.{At, at}
use Rattle.xet_stream_terms.specs.steps.Asking.{AsksNext, ThenNext, never}
use Rattle.xet_stream_terms.specs.PlanParts.{PlanPart}
use Rattle.xet_stream_rules.proofs.CallerLemmas.{each_same, goes_same, lasts_quiet, no_counts}
use Rattle.xet_stream_terms.proofs.NextPlans.{plan_recorded}

-- ---- nothing is recorded

abbrev unrecorded : (g : Setup) (x y : At) (asked : Option FileRange) → y.events ≡ x.events → y.cache ≡ x.cache
    → EachGoesOn x.clients y.clients → MayAskFirst g.file asked x.clients y.clients → PlanPart g x y
unrecorded g x y asked events cache on calls = record {
  asked = asked;
  calls = calls;
  new = [];
  added = events ∙ sym (append-nil x.events);
  plans = 0;
  counts = no_counts;
  few = omega arith;
  of_it = λ lane block again. All-nil (IsOf lane (record { plan = asked; block = block; again = again }));
  no_limits = refl;
  lasts = lasts_quiet g x y events on (λ s o h. subst (CacheTells s) (sym cache) h);
  cache = cache;
}

-- ---- an honest plan fails no test

honest_passes : (s : Store) → IsValid s → (g : Setup) (q : FileRange) (id : UniqueId) (k : Corruption)
    (a : PlanAnswer) → IsHonest s g.file q a
    → FromAnswer (plan_query g q id) a (Err (error.CorruptedReconstruction k)) → ⊥
honest_passes s v g q id k NoFile h f = cc
honest_passes s v g q id k PastEnd h f = cc
honest_passes s v g q id k (Found p) h f = terms p.terms f
  where
    passes : failed_test (shape p) q g.multirange ≡ None
    passes = ap (λ (x : Shape). failed_test x q g.multirange) h.2 ∙ honest_accepted s v g.file q g.multirange

    terms : (ts : List PlanTerm) → FromTerms p (plan_query g q id) ts (Err (error.CorruptedReconstruction k)) → ⊥
    terms [] e = cc
    terms (t ∷ ts) e =
        let made : FromTested p (plan_query g q id) None (Err (error.CorruptedReconstruction k)) =
        subst (λ (o : Option Corruption). FromTested p (plan_query g q id) o (Err (error.CorruptedReconstruction k)))
        passes e in
        let same = made.1 in
        cc

-- the plan that fails it
record FailedPlan (g : Setup) (q : FileRange) (k : Corruption) (a : PlanAnswer) : Type 0 where
  pub plan : Plan
  pub is : a ≡ Found plan
  pub some : 0 < length plan.terms
  pub fails : failed_test (shape plan) q g.multirange ≡ Some k

failed_plan : (g : Setup) (q : FileRange) (id : UniqueId) (k : Corruption) (a : PlanAnswer)
    → FromAnswer (plan_query g q id) a (Err (error.CorruptedReconstruction k)) → FailedPlan g q k a
failed_plan g q id k NoFile f = absurd (cc)
failed_plan g q id k PastEnd f = absurd (cc)
failed_plan g q id k (Found p) f = terms p.terms refl f
  where
    tested : 0 < length p.terms → (o : Option Corruption) → failed_test (shape p) q g.multirange ≡ o
        → FromTested p (plan_query g q id) o (Err (error.CorruptedReconstruction k)) → FailedPlan g q k (Found p)
    tested some None e h = absurd (let z = h.1 in cc)
    tested some (Some j) e h = record { plan = p; is = refl; some = some; fails = e ∙ (let z = h in cc) }

    terms : (ts : List PlanTerm) → p.terms ≡ ts
        → FromTerms p (plan_query g q id) ts (Err (error.CorruptedReconstruction k)) → FailedPlan g q k (Found p)
    terms [] e h = absurd (cc)
    terms (t ∷ ts) e h =
        let n = ap length e in tested (omega (arith, n)) (failed_test (shape p) q g.multirange) refl h

no_file : (g : Setup) (q : FileRange) (id : UniqueId) (a : PlanAnswer)
    → FromAnswer (plan_query g q id) a (Err error.FileNotFound) → a ≡ NoFile
no_file g q id NoFile f = refl
no_file g q id PastEnd f = absurd (cc)
no_file g q id (Found p) f = absurd (terms p.terms f)
  where
    tested : (o : Option Corruption) → FromTested p (plan_query g q id) o (Err error.FileNotFound) → ⊥
    tested None h = let z = h.1 in cc
    tested (Some j) h = cc

    terms : (ts : List PlanTerm) → FromTerms p (plan_query g q id) ts (Err error.FileNotFound) → ⊥
    terms [] h = cc
    terms (t ∷ ts) h = tested (failed_test (shape p) q g.multirange) h

-- ---- the query that was due

module _ (j : Job) (es : List Event) (l : Led) (c : Carries nobody (setup_of_job j) es l) (cs ns : List ClientTold)
    (fs : List Event) (k : Led) (kk : CacheTold) (e : FileReconstructionError) where
  abbrev g : Setup
  g = setup_of_job j

  abbrev x : At
  x = at es l cs kk

  abbrev y : At
  y = at fs k ns kk

  -- memory was wanting before it was asked; the signal says no
  untaken : UntakenDue cs ns never never es fs l.manager e → PlanFails g x y e
  untaken u =
      let memory : e ≡ error.OutOfMemory = ⊎_elim
      (λ (h : (e ≡ error.OutOfMemory) × (u.now ≡ l.manager) × (never ≡ never)). h.0)
      (λ (h : (e ≡ error.Cancelled) × CancelledDue l.manager u.now never never).
      absurd (let r = h.1.signal.yes refl in omega (arith, r)))
      u.fails in
      record {
        part = unrecorded g x y None u.events refl
            (subst (λ (ds : List ClientTold). EachGoesOn cs ds) (sym u.clients) (each_same cs)) u.clients;
        cause = subst (CauseAt g x y [] (asks_plan None)) (sym memory) tt;
      }

  -- the first connection was asked, and others weren't
  module _ (answer : Result (Unit {0}) FileReconstructionError) (d : DueAsked j cs ns never never es fs l.manager answer)
    where
      abbrev f : FirstAsked j cs ns es fs d.middle d.now d.due answer
      f = d.asked

      abbrev q : FileRange
      q = d.due.query

      abbrev query : PlanQuery
      query = plan_query g q d.due.id

      due : IsDue g es d.middle q
      due = led_due g es l.manager d.middle d.due c.led.manager d.one.takes

      within : (g.range.start ≤ q.start) × (q.start < q.end) × (q.end ≤ g.range.end)
      within = query_within g (queries es) q (due_cuts g es d.middle q due)

      first_tells : (s : Store) → AllTell s cs → f.first.store ≡ Some s
      first_tells s tell = (subst (AllTell s) f.before tell).0

      first_on : (made : Result (Option TermBlock) FileReconstructionError) → TermBlockCall f.first f.next query made
          → ClientGoesOn f.first f.next
      first_on made z = record { store = z.store; link = z.link; faults = z.faults; expiries = z.expiries }

      on : (made : Result (Option TermBlock) FileReconstructionError) → TermBlockCall f.first f.next query made
          → EachGoesOn cs ns
      on made z =
          subst (λ (ps : List ClientTold). EachGoesOn ps ns) (sym f.before)
          (subst (λ (bs : List ClientTold). EachGoesOn (f.first ∷ f.others) bs) (sym f.after)
          (first_on made z, each_same f.others))

      calls : (made : Result (Option TermBlock) FileReconstructionError) → TermBlockCall f.first f.next query made
          → AsksFirst g.file q cs ns
      calls made z = record {
        first = f.first;
        next = f.next;
        others = f.others;
        before = f.before;
        after = f.after;
        goes_on = first_on made z;
        served = z.served;
        asks = z.asks;
      }

      abbrev vain_part : (made : Result (Option TermBlock) FileReconstructionError) → TermBlockCall f.first f.next query made
          → fs ≡ es → PlanPart g x y
      vain_part made z events = unrecorded g x y (Some q) events refl (on made z) (calls made z)

      said_by : (made : Result (Option TermBlock) FileReconstructionError) → (h : FromSaid f.first f.next query made)
          → (a : PlanAnswer) → h.plan ≡ a → FirstSaid g.file q a cs ns
      said_by made h a is = record {
        first = f.first;
        last = f.next;
        others = f.others;
        before = subst (λ (ps : List ClientTold). FirstGoesOn ps f.first) (sym f.before) (goes_same f.first);
        after = f.after;
        answered = subst (QueryAnswered f.first f.next (g.file, q)) is
            (record { asked = h.asked; said = h.said; unfailed = h.unfailed; honest = h.honest });
      }

      cause_of : (e : FileReconstructionError) → TermBlockCause f.first f.next query e → CauseAt g x y []
          (asks_plan (Some q)) e
      cause_of error.OutOfMemory h = tt
      cause_of error.ClientError h =
          subst (λ (ps : List ClientTold). SomeRose ps ns) (sym f.before)
          (subst (λ (bs : List ClientTold). SomeRose (f.first ∷ f.others) bs) (sym f.after) (inl h))
      cause_of error.FileNotFound h =
          let none = no_file g q d.due.id h.plan h.from in
          let low = within.0 in
          let some = within.1 in
          let high = within.2 in
          record {
            some = omega (arith, low, some, high);
            query = q;
            said = said_by (Err error.FileNotFound) h NoFile none;
            unstored = λ s tell. subst (IsHonest s g.file q) none (h.honest s (first_tells s tell));
          }
      cause_of error.UrlExpired h = absurd h
      cause_of error.IoError h = absurd h
      cause_of (error.CorruptedReconstruction k) h =
          let p = failed_plan g q d.due.id k h.plan h.from in
          record {
            untrue = λ s over led. honest_passes s over.valid g q d.due.id k h.plan
                (h.honest s (first_tells s over.tell)) h.from;
            failed = inl (record {
              plan = p.plan;
              query = q;
              said = said_by (Err (error.CorruptedReconstruction k)) h (Found p.plan) p.is;
              from = within.0;
              to = within.2;
              some = p.some;
              fails = p.fails;
            });
          }
      cause_of (error.ConfigurationError s) h = absurd h
      cause_of error.Cancelled h = absurd h
      cause_of (error.InternalWriterError w) h = absurd h

  -- it failed, or its answer isn't recorded
  vain : DueAsked j cs ns never never es fs l.manager (Err e) → PlanFails g x y e
  vain d =
      ⊎_elim
      (λ (h : QueryFails d.middle d.now d.asked.first d.asked.next es fs (query (Err e) d) e). record {
        part = vain_part (Err e) d (Err e) h.call h.unrecorded;
        cause = cause_of (Err e) d e h.call.cause;
      })
      (λ (h : AnswerLeft d.middle d.now d.asked.first d.asked.next es fs (query (Err e) d) e). record {
        part = vain_part (Err e) d (Ok h.answer) h.call h.left.unrecorded;
        cause = ⊎_elim
            (λ (m : e ≡ error.OutOfMemory). subst (CauseAt g x y [] (asks_plan (Some (q (Err e) d)))) (sym m) tt)
            (λ (m : PassesKnownEnd d.middle (q (Err e) d) h.answer
            × (e ≡ error.CorruptedReconstruction (PastKnownEnd d.middle.known_end (q (Err e) d).start))).
            absurd (none_passes d.middle (q (Err e) d) h.answer (due (Err e) d).kept (due (Err e) d).unended
            (within (Err e) d).1 (subst (λ (r : FileRange). (q (Err e) d).end ≤ r.end) (sym (due (Err e) d).is_for.range)
            (within (Err e) d).2) m.0))
            h.left.fails;
      })
      d.asked.call.err

  -- memory was wanting for its plan, which is recorded
  short : DueAsked j cs ns never never es fs l.manager (Ok tt) → e ≡ error.OutOfMemory → PlanFails g x y e
  short d memory = record {
    part = plan_recorded j es l c cs ns fs never never d kk k;
    cause = subst (CauseAt g x y _ (asks_plan (Some d.due.query))) (sym memory) tt;
  }

  pub ask_fails : AskErr j cs ns never never es fs l.manager e → PlanFails g x y e
  ask_fails (inl u) = untaken u
  ask_fails (inr (inl d)) = vain d
  ask_fails (inr (inr h)) = short h.1 h.0

-- ---- by one call of `ask_next`

module _ (j : Job) (es : List Event) (l : Led) (c : Carries nobody (setup_of_job j) es l) (cs ns : List ClientTold)
    (fs : List Event) (k : Led) (kk : CacheTold) where
  vain_next : (r : Bool) (asked : Result Bool FileReconstructionError)
      (answer : Result (Option NextTerm) FileReconstructionError) → AskTurn j cs ns never never es fs l k asked
      → ThenNext j l k r asked answer
      → IfErr answer (PlanFails (setup_of_job j) (at es l cs kk) (at fs k ns kk))
  vain_next r (Ok a) (Ok o) t h = tt
  vain_next r (Err e) (Ok o) t h = absurd h
  vain_next r (Ok true) (Err f) t h = absurd h
  vain_next r (Ok false) (Err f) t h = absurd h
  vain_next r (Err e) (Err f) t h =
      subst (PlanFails (setup_of_job j) (at es l cs kk) (at fs k ns kk)) (sym h) (ask_fails j es l c cs ns fs k kk e t.err)

  pub next_fails : (r : Bool) (answer : Result (Option NextTerm) FileReconstructionError)
      → AsksNext j cs ns es fs l k r answer
      → IfErr answer (PlanFails (setup_of_job j) (at es l cs kk) (at fs k ns kk))
  next_fails r answer a = vain_next r a.asked answer a.turn a.next
