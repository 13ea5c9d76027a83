-- A leader after its next terms were written.
use Rattle.std.proofs.Common.{◌≡◌, ℕ, zero, suc, ◌+◌, ◌-◌, ◌^◌, ◌<◌, ◌≤◌, min, Bool, true, false, cond, List, [], ◌∷◌, ◌++◌, length, take, drop, refl, sym, subst, ◌∙◌, ap, arith, append_assoc}
use Rattle.std.specs.Prelude.{count_by, map, nat_lt}
use Rattle.std.specs.List.{sum_by}
use Rattle.std.proofs.lemmas.Bool.Decides.{nat_tests}
use Rattle.std.proofs.lemmas.List.{append-nil}
use Rattle.std.proofs.lemmas.List.Sums.{sum_by-append, sum_by-cons}
use Rattle.xet_events.specs.declared.event.Event.{Event}
use Rattle.xet_events.specs.declared.event.Event.TheVariants.{Wrote}
use Rattle.xet_events.specs.Allowed.{IsRunning}
use Rattle.xet_events.specs.Events.{Task, expires, is_admit, planned, size, taken_in, written}
use Rattle.xet_events.proofs.CallerLemmas.{planned-push}
use Rattle.xet_terms.specs.Managers.{Manager}
use Rattle.xet_ties.specs.Setup.{RunTold, Setup}
use Rattle.xet_ties.specs.Ties.{Slack}
use Rattle.xet_ties.specs.Recordings.{wrote_of}
use Rattle.xet_ties.proofs.CallerLemmas.{count-same}
use Rattle.xet_leader.specs.Advances.{advanced, finished_at}
use Rattle.xet_leader.specs.Led.{AreLedPlans, AreStale, IsLed, IsLedManager, IsLedPlan, Led}
use Rattle.xet_leader.proofs.Finishing.{stay_each, stay_first, stay_following, stay_last, stay_numbered}
use Rattle.xet_leader.proofs.PlainEvents.{IsPlain, plain_manager, plain_plans, plain_running, plain_stale}
use Rattle.xet_leader.proofs.QuietEvents.{quiet_under}

-- ---- events of written terms

-- an event that writes
pub record IsWrite (e : Event) : Type 0 where
  pub plain : IsPlain e
  pub admits : is_admit e ≡ false

pub is_write : (n : ℕ) → IsWrite (Wrote n)
is_write n = record {
  plain = record {
    tasks = refl;
    plan = refl;
    query = refl;
    keeps_none = λ p k. refl;
    expires_none = λ p k. refl;
    expiry = λ p k. refl;
    renews_none = λ p. refl;
    error = refl;
  };
  admits = refl;
}

abbrev pub AreWrites : List Event → Type 0
AreWrites [] = Unit {0}
AreWrites (e ∷ fs) = IsWrite e × AreWrites fs

pub are_writes : (ns : List ℕ) → AreWrites (wrote_of ns)
are_writes [] = tt
are_writes (n ∷ ns) = by (are_writes ns) (nat_lt 0 n)
  where
    by : AreWrites (wrote_of ns) → (v : Bool) → AreWrites (cond v (Wrote n ∷ []) [] ++ wrote_of ns)
    by more true = (is_write n, more)
    by more false = more

-- they write the bytes of the terms
pub sizes_sum : (ts : List Task) → sum_by taken_in (wrote_of (map size ts)) ≡ sum_by size ts
sizes_sum [] = refl
sizes_sum (t ∷ ts) = by (sizes_sum ts) (nat_lt 0 (size t)) refl
  where
    by : sum_by taken_in (wrote_of (map size ts)) ≡ sum_by size ts → (v : Bool) → nat_lt 0 (size t) ≡ v
        → sum_by taken_in (cond v (Wrote (size t) ∷ []) [] ++ wrote_of (map size ts)) ≡ sum_by size (t ∷ ts)
    by r true e =
        let c : sum_by taken_in (Wrote (size t) ∷ wrote_of (map size ts)) ≡ size t + sum_by taken_in
        (wrote_of (map size ts)) = sum_by-cons taken_in (Wrote (size t)) (wrote_of (map size ts)) in
        let d = sum_by-cons size t ts in
        omega (arith, r, c, d)
    by r false e = let z : size t ≡ 0 = grind (arith, nat_tests) in let d = sum_by-cons size t ts in
        omega (arith, r, z, d)

-- ---- what they leave as it was

pub planned_same : (es fs : List Event) → AreWrites fs → planned (es ++ fs) ≡ planned es
planned_same es [] w = ap planned (append-nil es)
planned_same es (e ∷ fs) w = sym (ap planned (append_assoc es (e ∷ []) fs)) ∙ planned_same (es ++ e ∷ []) fs w.1
    ∙ (planned-push es e ∙ ap (λ (l : List Task). planned es ++ l) w.0.plain.tasks ∙ append-nil (planned es))

pub admits_same : (es fs : List Event) → AreWrites fs → count_by is_admit (es ++ fs) ≡ count_by is_admit es
admits_same es [] w = ap (λ (l : List Event). count_by is_admit l) (append-nil es)
admits_same es (e ∷ fs) w = sym (ap (λ (l : List Event). count_by is_admit l) (append_assoc es (e ∷ []) fs))
    ∙ admits_same (es ++ e ∷ []) fs w.1 ∙ count-same is_admit es e w.0.admits

plans_same : (g : Setup) (b : RunTold) (es fs : List Event) (sl : Slack) (stale : List ℕ) (l : Led) → AreWrites fs
    → AreLedPlans g b es sl stale l → AreLedPlans g b (es ++ fs) sl stale l
plans_same g b es [] sl stale l w a = subst (λ (x : List Event). AreLedPlans g b x sl stale l) (sym (append-nil es)) a
plans_same g b es (e ∷ fs) sl stale l w a =
    subst (λ (x : List Event). AreLedPlans g b x sl stale l) (append_assoc es (e ∷ []) fs)
    (plans_same g b (es ++ e ∷ []) fs sl stale l w.1 (plain_plans g b es e sl stale l w.0.plain a))

manager_same : (g : Setup) (es fs : List Event) (m : Manager) → AreWrites fs → IsLedManager g es m
    → IsLedManager g (es ++ fs) m
manager_same g es [] m w a = subst (λ (x : List Event). IsLedManager g x m) (sym (append-nil es)) a
manager_same g es (e ∷ fs) m w a = subst (λ (x : List Event). IsLedManager g x m) (append_assoc es (e ∷ []) fs)
    (manager_same g (es ++ e ∷ []) fs m w.1 (plain_manager g es e m w.0.plain a))

running_same : (es fs : List Event) → AreWrites fs → IsRunning es → IsRunning (es ++ fs)
running_same es [] w r = subst IsRunning (sym (append-nil es)) r
running_same es (e ∷ fs) w r = subst IsRunning (append_assoc es (e ∷ []) fs)
    (running_same (es ++ e ∷ []) fs w.1 (plain_running es e w.0.plain r))

stale_same : (es fs : List Event) (stale : List ℕ) → AreWrites fs → AreStale es stale → AreStale (es ++ fs) stale
stale_same es [] stale w a = subst (λ (x : List Event). AreStale x stale) (sym (append-nil es)) a
stale_same es (e ∷ fs) stale w a = subst (λ (x : List Event). AreStale x stale) (append_assoc es (e ∷ []) fs)
    (stale_same (es ++ e ∷ []) fs stale w.1 (plain_stale es e stale w.0.plain a))

under_same : (g : Setup) (es fs : List Event) → AreWrites fs → ((p k : ℕ) → count_by (expires p k) es < g.tries)
    → (p k : ℕ) → count_by (expires p k) (es ++ fs) < g.tries
under_same g es [] w a p k = subst (λ (x : List Event). count_by (expires p k) x < g.tries) (sym (append-nil es))
    (a p k)
under_same g es (e ∷ fs) w a p k =
    subst (λ (x : List Event). count_by (expires p k) x < g.tries) (append_assoc es (e ∷ []) fs)
    (under_same g (es ++ e ∷ []) fs w.1 (quiet_under g es e w.0.plain.expires_none a) p k)

-- ---- the leader

-- the first terms, and those after them
front : {A : Type 0} (ys rest : List A) → take (length ys) (ys ++ rest) ≡ ys
front [] [] = refl
front [] (z ∷ rest) = refl
front (y ∷ ys) rest = ap (λ l. y ∷ l) (front ys rest)

nil_take : {A : Type 0} (n : ℕ) → take {A = A} n [] ≡ []
nil_take zero = refl
nil_take (suc n) = refl

no_front : {A : Type 0} (n : ℕ) (ys rest : List A) → [] ≡ ys ++ rest → take {A = A} n [] ≡ ys
no_front n [] rest h = nil_take n
no_front n (y ∷ ys) rest h = absurd (cc)

front_more : {A : Type 0} (k : ℕ) (xs ys rest : List A) → drop k xs ≡ ys ++ rest
    → take (k + length ys) xs ≡ take k xs ++ ys
front_more {A = A} zero xs ys rest h = let e : 0 + length ys ≡ length ys = omega arith in
    ap (λ (j : ℕ). take j xs) e ∙ ap (λ (l : List A). take (length ys) l) h ∙ front ys rest
front_more {A = A} (suc k) [] ys rest h = no_front (suc k + length ys) ys rest h
front_more {A = A} (suc k) (x ∷ xs) ys rest h =
    let e : suc k + length ys ≡ suc (k + length ys) = omega arith in
    ap (λ (j : ℕ). take j (x ∷ xs)) e ∙ ap (λ (l : List A). x ∷ l) (front_more k xs ys rest h)

plans_finish : (g : Setup) (b : RunTold) (es : List Event) (sl : Slack) (stale : List ℕ) (l : Led) (n : ℕ)
    → l.finished ≤ n → n ≤ l.planned → AreLedPlans g b es sl stale l → AreLedPlans g b es sl stale (finished_at n l)
plans_finish g b es sl stale l n h w a = record {
  each = stay_each (IsLedPlan g b es sl stale) n l.plans a.each;
  follow = stay_following n l.plans a.follow;
  numbered = λ open_. stay_numbered n _ l.plans (a.numbered open_);
  last = stay_last n l.planned l.plans a.last;
  first = stay_first l.finished n l.planned l.plans h w a.follow a.last a.first;
}

led_finish : (g : Setup) (b : RunTold) (es : List Event) (sl : Slack) (stale : List ℕ) (l : Led) (n : ℕ)
    (ts rest : List Task) → n ≡ l.finished + length ts → drop l.finished (planned es) ≡ ts ++ rest → n ≤ l.admitted
    → IsLed g b es sl stale l
    → IsLed g b (es ++ wrote_of (map size ts)) sl stale (finished_at n l)
led_finish g b es sl stale l n ts rest is next w a =
    let c = a.counted in
    let fs : List Event = wrote_of (map size ts) in
    let writes = are_writes (map size ts) in
    let same = planned_same es fs writes in
    let admits = admits_same es fs writes in
    let p = c.planned_are in
    let aw = c.admitted_within in
    let sums = sum_by-append taken_in es fs in
    let sizes = sizes_sum ts in
    let front = ap (λ (j : ℕ). sum_by size (take j (planned es))) is
    ∙ ap (λ (us : List Task). sum_by size us) (front_more l.finished (planned es) ts rest next)
    ∙ sum_by-append size (take l.finished (planned es)) ts in
    let before = c.written_are in
    let first : written es ≡ sum_by taken_in es = refl in
    let all : written (es ++ fs) ≡ sum_by taken_in (es ++ fs) = refl in
    let there : sum_by size (take n (planned (es ++ fs))) ≡ sum_by size (take n (planned es)) =
    ap (λ (us : List Task). sum_by size (take n us)) same in
    let done : written (es ++ fs) ≡ sum_by size (take n (planned (es ++ fs))) =
    omega (arith, sums, sizes, front, before, first, all, there) in
    record {
      running = running_same es fs writes a.running;
      some = a.some;
      tries = a.tries;
      stale_are = stale_same es fs stale writes a.stale_are;
      under = under_same g es fs writes a.under;
      manager = manager_same g es fs l.manager writes a.manager;
      plans = plans_finish g b (es ++ fs) sl stale l n (omega (arith, is)) (omega (arith, w, aw))
          (plans_same g b es fs sl stale l writes a.plans);
      counted = record {
        planned_are = ap length same ∙ p;
        planned_fits = c.planned_fits;
        admitted_are = c.admitted_are ∙ sym admits;
        finished_within = w;
        admitted_within = aw;
        written_are = done;
      };
    }

-- the next admitted terms were written, and are counted
pub led_wrote : (g : Setup) (b : RunTold) (es : List Event) (sl : Slack) (stale : List ℕ) (l : Led)
    (ts rest : List Task) → drop l.finished (planned es) ≡ ts ++ rest → l.finished + length ts ≤ l.admitted
    → IsLed g b es sl stale l
    → IsLed g b (es ++ wrote_of (map size ts)) sl stale (advanced (length ts) l)
led_wrote g b es sl stale l ts rest next w a =
    let c = a.counted in
    let aw = c.admitted_within in
    let fits = c.planned_fits in
    let n : min (l.finished + length ts) (2 ^ 64 - 1) ≡ l.finished + length ts = omega (arith, w, aw, fits) in
    led_finish g b es sl stale l (min (l.finished + length ts) (2 ^ 64 - 1)) ts rest n next (omega (arith, n, w)) a
