-- A run after its terms were admitted.
use Rattle.std.proofs.Common.{◌≡◌, ℕ, ◌+◌, ◌-◌, ◌<◌, List, [], ◌∷◌, ◌++◌, length, take, refl, sym, subst, ◌∙◌, ap, arith, append_assoc, Some, Ok, Err}
use Rattle.std.specs.Prelude.{Result, count_by, min}
use Rattle.std.specs.List.{sum_by}
use Rattle.std.proofs.Math.Nat.{min-le_left}
use Rattle.std.proofs.lemmas.List.{append-nil}
use Rattle.xet_error.specs.declared.error.FileReconstructionError.{FileReconstructionError}
use Rattle.xet_error.specs.declared.error.FileReconstructionError.TheVariants as error
use Rattle.xet_events.specs.declared.event.Event.{Event}
use Rattle.xet_events.specs.declared.event.Event.TheVariants.{Admit}
use Rattle.xet_events.specs.Allowed.{IsRunning}
use Rattle.xet_events.specs.Limits.{LimitTold}
use Rattle.xet_events.specs.Events.{Task, expires, size, written}
use Rattle.xet_events.proofs.CallerLemmas.{written-push}
use Rattle.xet_terms.specs.Managers.{Manager}
use Rattle.xet_ties.specs.Causes.{Cause}
use Rattle.xet_ties.specs.Setup.{RunTold, Setup}
use Rattle.xet_ties.specs.Ties.{MayLeave, Slack}
use Rattle.xet_ties.proofs.CallerLemmas.{short_leaves}
use Rattle.xet_parts.specs.Admissions.{admits}
use Rattle.xet_parts.proofs.CallerLemmas.{admits_counted, admits_planned, admitted_ties}
use Rattle.xet_leader.specs.Admission.{AdmitFails, AdmitLeads, AdmitTurn, AdmittedTerms, at_once, most_at_once}
use Rattle.xet_leader.specs.Led.{AreLedPlans, AreStale, IsLed, IsLedManager, Led}
use Rattle.xet_leader.specs.Steady.{IsFailing, IsGoing, Loose, Moment}
use Rattle.xet_leader.proofs.PlainEvents.{IsPlain, plain_manager, plain_plans, plain_running, plain_stale}
use Rattle.xet_leader.proofs.QuietEvents.{quiet_under}
use Rattle.xet_leader.proofs.WriterFaults.{any_unfailed}
use Rattle.xet_leader.proofs.Halts.{memory_halted, memory_spent}

is_plain : (limit : ℕ) → IsPlain (Admit limit)
is_plain limit = record {
  tasks = refl;
  plan = refl;
  query = refl;
  keeps_none = λ p k. refl;
  expires_none = λ p k. refl;
  expiry = λ p k. refl;
  renews_none = λ p. refl;
  error = refl;
}

plans_after : (g : Setup) (b : RunTold) (es : List Event) (ls : List ℕ) (sl : Slack) (stale : List ℕ) (l : Led)
    → AreLedPlans g b es sl stale l → AreLedPlans g b (es ++ admits ls) sl stale l
plans_after g b es [] sl stale l a = subst (λ (x : List Event). AreLedPlans g b x sl stale l) (sym (append-nil es)) a
plans_after g b es (n ∷ ls) sl stale l a =
    subst (λ (x : List Event). AreLedPlans g b x sl stale l) (append_assoc es (Admit n ∷ []) (admits ls))
    (plans_after g b (es ++ Admit n ∷ []) ls sl stale l (plain_plans g b es (Admit n) sl stale l (is_plain n) a))

manager_after : (g : Setup) (es : List Event) (ls : List ℕ) (m : Manager) → IsLedManager g es m
    → IsLedManager g (es ++ admits ls) m
manager_after g es [] m a = subst (λ (x : List Event). IsLedManager g x m) (sym (append-nil es)) a
manager_after g es (n ∷ ls) m a =
    subst (λ (x : List Event). IsLedManager g x m) (append_assoc es (Admit n ∷ []) (admits ls))
    (manager_after g (es ++ Admit n ∷ []) ls m (plain_manager g es (Admit n) m (is_plain n) a))

running_after : (es : List Event) (ls : List ℕ) → IsRunning es → IsRunning (es ++ admits ls)
running_after es [] r = subst IsRunning (sym (append-nil es)) r
running_after es (n ∷ ls) r =
    subst IsRunning (append_assoc es (Admit n ∷ []) (admits ls))
    (running_after (es ++ Admit n ∷ []) ls (plain_running es (Admit n) (is_plain n) r))

written_after : (es : List Event) (ls : List ℕ) → written (es ++ admits ls) ≡ written es
written_after es [] = ap written (append-nil es)
written_after es (n ∷ ls) =
    let e = ap written (append_assoc es (Admit n ∷ []) (admits ls)) in
    let r = written_after (es ++ Admit n ∷ []) ls in
    let p : written (es ++ Admit n ∷ []) ≡ written es + 0 = written-push es (Admit n) in
    omega (arith, e, r, p)

stale_after : (es : List Event) (ls : List ℕ) (stale : List ℕ) → AreStale es stale → AreStale (es ++ admits ls) stale
stale_after es [] stale a = subst (λ (x : List Event). AreStale x stale) (sym (append-nil es)) a
stale_after es (n ∷ ls) stale a =
    subst (λ (x : List Event). AreStale x stale) (append_assoc es (Admit n ∷ []) (admits ls))
    (stale_after (es ++ Admit n ∷ []) ls stale (plain_stale es (Admit n) stale (is_plain n) a))

under_after : (g : Setup) (es : List Event) (ls : List ℕ) → ((p k : ℕ) → count_by (expires p k) es < g.tries)
    → (p k : ℕ) → count_by (expires p k) (es ++ admits ls) < g.tries
under_after g es [] a p k = subst (λ (x : List Event). count_by (expires p k) x < g.tries) (sym (append-nil es))
    (a p k)
under_after g es (n ∷ ls) a p k =
    subst (λ (x : List Event). count_by (expires p k) x < g.tries) (append_assoc es (Admit n ∷ []) (admits ls))
    (under_after g (es ++ Admit n ∷ []) ls (quiet_under g es (Admit n) (λ q j. refl) a) p k)

-- the leader after so many of its waiting terms were admitted, where so many are left
pub led_admits : (g : Setup) (b : RunTold) (es : List Event) (ls : List ℕ) (sl : Slack) (stale : List ℕ) (l : Led)
    (most left : ℕ) → length ls + left ≡ min (l.planned - l.admitted) most → IsLed g b es sl stale l
    → IsLed g b (es ++ admits ls) sl stale
    (record l { admitted = l.admitted + (min (l.planned - l.admitted) most - left) })
led_admits g b es ls sl stale l most left n a =
    let within = min-le_left (l.planned - l.admitted) most in
    let counted = admits_counted es ls in
    let same = ap length (admits_planned es ls) in
    let c = a.counted in
    let p = c.planned_are in
    let q = c.admitted_are in
    let f = c.finished_within in
    let w = c.admitted_within in
    record {
      running = running_after es ls a.running;
      some = a.some;
      tries = a.tries;
      stale_are = stale_after es ls stale a.stale_are;
      under = under_after g es ls a.under;
      manager = manager_after g es ls l.manager a.manager;
      plans = (let z = plans_after g b es ls sl stale l a.plans in
          record { each = z.each; follow = z.follow; numbered = z.numbered; last = z.last; first = z.first });
      counted = record {
        planned_are = same ∙ p;
        planned_fits = c.planned_fits;
        admitted_are = omega (arith, counted, n, q, w);
        finished_within = omega (arith, n, f, w);
        admitted_within = omega (arith, n, w, within);
        written_are = written_after es ls ∙ c.written_are
            ∙ ap (λ (ts : List Task). sum_by size (take l.finished ts)) (sym (admits_planned es ls));
      };
    }

-- so many at once
led_after : (g : Setup) (b : RunTold) (es : List Event) (ls : List ℕ) (sl : Slack) (stale : List ℕ) (l : Led)
    (left : ℕ) → length ls + left ≡ at_once (l.planned - l.admitted) → IsLed g b es sl stale l
    → IsLed g b (es ++ admits ls) sl stale
    (record l { admitted = l.admitted + (at_once (l.planned - l.admitted) - left) })
led_after g b es ls sl stale l left n a = led_admits g b es ls sl stale l most_at_once left n a

-- a run that goes on goes on after it
going : (g : Setup) (b : RunTold) (m : Moment) (o : Loose) (l k : Led) (before after : LimitTold) (fs : List Event)
    → m.told.limits ≡ before → AdmittedTerms before after m.events fs l k → IsGoing g b m o l
    → IsGoing g b (record { told = record m.told { limits = after }; events = fs }) o k
going g b m o l k before after fs at a s =
    let ls = a.admits.admitted.limits in
    let is : fs ≡ m.events ++ admits ls = a.admits.admitted.events in
    let led = led_after g b m.events ls s.slack o.stale l a.left a.admits.counted s.led in
    record {
      slack = s.slack;
      ties = (admitted_ties before after m.events fs a.admits.unused a.admits.admitted).ties g b m.told s.slack at
          s.ties;
      settled = s.settled;
      led = subst (λ (y : Led). IsLed g b fs s.slack o.stale y) (sym a.led)
          (subst (λ (x : List Event). IsLed g b x s.slack o.stale (record l { admitted = l.admitted + (at_once (l.planned - l.admitted) - a.left) }))
          (sym is) led);
      calm = s.calm;
      unfailed = s.unfailed;
      cache_tells = s.cache_tells;
    }

-- and for want of memory it is to stop
failing : (g : Setup) (b : RunTold) (m : Moment) (o : Loose) (l k : Led) (before after : LimitTold) (fs : List Event)
    (e : FileReconstructionError) → m.told.limits ≡ before → AdmitFails before after m.events fs l k e
    → IsGoing g b m o l
    → IsFailing g b (record { told = record m.told { limits = after }; events = fs }) e
failing g b m o l k before after fs e at a s =
    let memory : e ≡ error.OutOfMemory = a.admits.memory in
    record {
      slack = s.slack;
      ties = (admitted_ties before after m.events fs (a.admits.last ∷ []) a.admits.admitted).ties g b m.told s.slack
          at s.ties;
      left = subst (λ (x : FileReconstructionError). MayLeave (Some x) b.clients s.slack) (sym memory)
          (short_leaves b.clients s.slack);
      cause = subst (Cause g s.slack.heard b (record m.told { limits = after })) (sym memory) tt;
      unfailed = any_unfailed b.sink.faults m.told.sink.faults e s.unfailed;
      spent = λ h. absurd (let z : error.OutOfMemory ≡ error.UrlExpired = sym memory ∙ h in cc);
      halted = λ yes. memory_halted e memory;
      under = λ u. memory_spent e memory u;
      cache_tells = s.cache_tells;
    }

pub admit_leads : (before after : LimitTold) (es fs : List Event) (l k : Led)
    (answer : Result (Unit {0}) FileReconstructionError) → AdmitTurn before after es fs l k answer
    → AdmitLeads before after es fs l k answer
admit_leads before after es fs l k (Ok tt) t g m o at is = record {
  ok = λ b s. going g b m o l k before after fs at
      (subst (λ (x : List Event). AdmittedTerms before after x fs l k) (sym is) t.ok) s;
  err = λ b s. tt;
}
admit_leads before after es fs l k (Err e) t g m o at is = record {
  ok = λ b s. tt;
  err = λ b s. failing g b m o l k before after fs e at
      (subst (λ (x : List Event). AdmitFails before after x fs l k e) (sym is) t.err) s;
}
