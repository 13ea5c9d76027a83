-- A leader's manager, counts and stale plans after an event that plans nothing and is no error.
use Rattle.std.proofs.Common.{◌≡◌, ℕ, Bool, true, false, List, [], ◌∷◌, ◌++◌, length, take, drop, refl, sym, subst, ◌∙◌, ap, inl, inr, ⊎_elim, arith, Option, None}
use Rattle.std.specs.Prelude.{count_by, Contains, map, ◌<◌, ◌||◌}
use Rattle.std.specs.Option.{option_or}
use Rattle.std.specs.List.{list_any, sum_by}
use Rattle.std.proofs.lemmas.List.{append-nil}
use Rattle.xet_base.specs.declared.cas_types.FileRange.{FileRange}
use Rattle.xet_error.specs.declared.error.FileReconstructionError.{FileReconstructionError}
use Rattle.xet_events.specs.declared.event.Event.{Event}
use Rattle.xet_events.specs.Allowed.{IsRunning}
use Rattle.xet_events.specs.Events.{Task, error_in, expires, expiry_in, is_admit, is_kept, is_plan, is_stale, keeps, last_of, plan_count, planned, size, taken_in, tasks_in, tasks_of, written}
use Rattle.xet_events.proofs.CallerLemmas.{any-push, error-push, flat-push, planned-push, stale-push, written-push}
use Rattle.xet_history.specs.TrueHistory.{SomeEndsEarly, EndsEarly, planned_term, queries, queries_in}
use Rattle.xet_terms.specs.Managers.{Manager}
use Rattle.xet_ties.specs.History.{expiry_of, is_expired}
use Rattle.xet_ties.specs.Setup.{Setup}
use Rattle.xet_ties.specs.Saids.{planned_of}
use Rattle.xet_ties.proofs.CallerLemmas.{count-same, expired-push, first_stays, range_at-push, goes_same}
use Rattle.xet_leader.specs.declared.leader.LedPlan.{LedPlan}
use Rattle.xet_leader.specs.Led.{AreStale, IsCounted, IsLedManager, IsReady, IsRecordedPlan, LastNumberIs, Led}

-- an event that plans nothing and is no error
pub record IsQuiet (e : Event) : Type 0 where
  pub tasks : tasks_in e ≡ []
  pub plan : is_plan e ≡ false
  pub query : queries_in e ≡ []
  pub error : error_in e ≡ None

pub quiet_planned : (es : List Event) (e : Event) → IsQuiet e → planned (es ++ e ∷ []) ≡ planned es
quiet_planned es e q = planned-push es e ∙ ap (λ (l : List Task). planned es ++ l) q.tasks ∙ append-nil (planned es)

pub quiet_running : (es : List Event) (e : Event) → IsQuiet e → IsRunning es → IsRunning (es ++ e ∷ [])
quiet_running es e q r = error-push es e ∙ ap (λ (o : Option FileReconstructionError). option_or o (error_in e)) r
    ∙ q.error

early_stays : (es : List Event) (e : Event) → SomeEndsEarly es → SomeEndsEarly (es ++ e ∷ [])
early_stays [] e h = absurd h
early_stays (x ∷ es) e h = ⊎_elim (λ (a : EndsEarly x). inl a) (λ (a : SomeEndsEarly es). inr (early_stays es e a)) h

pub quiet_manager : (g : Setup) (es : List Event) (e : Event) (m : Manager) → IsQuiet e → IsLedManager g es m
    → IsLedManager g (es ++ e ∷ []) m
quiet_manager g es e m q a = record {
  is_for = a.is_for;
  kept = a.kept;
  queries_are = flat-push queries_in es e ∙ ap (λ (l : List FileRange). queries es ++ l) q.query
      ∙ append-nil (queries es) ∙ a.queries_are;
  idle = a.idle;
  none_waits = a.none_waits;
  going = λ h. ap (λ (ts : List Task). last_of g.range.start (map (λ t. t.term.byte_range.end) ts))
      (quiet_planned es e q) ∙ a.going h;
  early = λ h. early_stays es e (a.early h);
  over = a.over;
  covered = a.covered;
  goes_on = λ h. goes_same es e q.query (a.goes_on h);
  long = a.long;
}

-- how the history has a plan
pub quiet_recorded : (es : List Event) (e : Event) (l : LedPlan) → IsQuiet e → IsRecordedPlan es l
    → IsRecordedPlan (es ++ e ∷ []) l
quiet_recorded es e l q r = record {
  blocks = first_stays _ es e (map planned_of l.block.blocks) r.blocks;
  at_range = range_at-push es e l.number l.block.urls.byte_range r.at_range;
  tasks = subst (λ (ts : List Task). take (length l.block.terms) (drop l.first ts) ≡ tasks_of l.number
      (map planned_term l.block.terms) (map planned_of l.block.blocks)) (sym (quiet_planned es e q)) r.tasks;
}

pub quiet_numbered : (es : List Event) (e : Event) (ls : List LedPlan) → IsQuiet e → LastNumberIs (plan_count es) ls
    → LastNumberIs (plan_count (es ++ e ∷ [])) ls
quiet_numbered es e ls q h = subst (λ (c : ℕ). LastNumberIs c ls) (sym (count-same is_plan es e q.plan)) h

-- an event that admits and writes nothing leaves the counts
pub quiet_counted : (es : List Event) (e : Event) (l : Led) → IsQuiet e → is_admit e ≡ false → taken_in e ≡ 0
    → IsCounted es l → IsCounted (es ++ e ∷ []) l
quiet_counted es e l q admits takes c =
    let same = quiet_planned es e q in
    let w : written (es ++ e ∷ []) ≡ written es = (let p = written-push es e in omega (arith, p, takes)) in
    record {
      planned_are = ap length same ∙ c.planned_are;
      planned_fits = c.planned_fits;
      admitted_are = c.admitted_are ∙ sym (count-same is_admit es e admits);
      finished_within = c.finished_within;
      admitted_within = c.admitted_within;
      written_are = w ∙ c.written_are ∙ ap (λ (ts : List Task). sum_by size (take l.finished ts)) (sym same);
    }

-- one that expires no URL leaves what each block has expired
pub quiet_under : (g : Setup) (es : List Event) (e : Event) → ((p k : ℕ) → expires p k e ≡ false)
    → ((p k : ℕ) → count_by (expires p k) es < g.tries) → (p k : ℕ) → count_by (expires p k) (es ++ e ∷ []) < g.tries
quiet_under g es e none a p k = subst (λ (c : ℕ). c < g.tries) (sym (count-same (expires p k) es e (none p k)))
    (a p k)

-- one that expires no URL and asks for none again leaves what is stale, and what is ready
pub quiet_stale : (es : List Event) (e : Event) (stale : List ℕ) → ((p : ℕ) → expiry_in p e ≡ []) → AreStale es stale
    → AreStale (es ++ e ∷ []) stale
quiet_stale es e [] none a = tt
quiet_stale es e (p ∷ ps) none a = (
  stale-push es e p ∙ ap (λ (l : List Bool). last_of (is_stale es p) l) (none p)
      ∙ a.0,
  a.1,
  quiet_stale es e ps none a.2,
)

pub quiet_ready : (g : Setup) (es : List Event) (e : Event) (stale : List ℕ) (p k : ℕ) → expires p k e ≡ false
    → expiry_of p k e ≡ [] → IsReady g es stale p k → IsReady g (es ++ e ∷ []) stale p k
quiet_ready g es e stale p k none expiry r = record {
  left = subst (λ (c : ℕ). c < g.tries) (sym (count-same (expires p k) es e none)) r.left;
  fresh = ⊎_elim (λ (c : Contains stale p). inl c)
      (λ (f : is_expired es p k ≡ false). inr (expired-push es e p k expiry ∙ f)) r.fresh;
}

or_no : (v : Bool) → (v || false) ≡ v
or_no true = refl
or_no false = refl

-- one that doesn't keep this block leaves whether it is kept
pub quiet_kept : (es : List Event) (e : Event) (p k : ℕ) → keeps p k e ≡ false
    → is_kept (es ++ e ∷ []) p k ≡ is_kept es p k
quiet_kept es e p k h = any-push (keeps p k) es e ∙ ap (λ (v : Bool). list_any (keeps p k) es || v) h
    ∙ or_no (list_any (keeps p k) es)
