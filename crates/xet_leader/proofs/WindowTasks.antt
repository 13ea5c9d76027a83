-- A leader's terms as the history has them.
use Rattle.std.proofs.Common.{◌≡◌, ℕ, zero, suc, ◌+◌, ◌-◌, ◌≤◌, Bool, true, false, cond, List, [], ◌∷◌, ◌++◌, length, take, drop, refl, sym, subst, ◌∙◌, ap, arith, drop-drop}
use Rattle.std.specs.Prelude.{All, Contains, filter, map}
use Rattle.std.proofs.lemmas.List.{map-append, take-append-drop}
use Rattle.std.proofs.lemmas.List.Elements.{All-append, All-cons, All-head, All-nil, All-tail}
use Rattle.xet_blocks.specs.declared.reconstruction_terms.file_term.FileTerm.{FileTerm}
use Rattle.xet_events.specs.declared.event.Event.{Event}
use Rattle.xet_events.specs.Events.{Task, planned, size, tasks_of}
use Rattle.xet_history.specs.TrueHistory.{planned_term}
use Rattle.xet_ties.specs.Saids.{has_bytes, planned_of}
use Rattle.xet_ties.specs.Setup.{RunTold, Setup}
use Rattle.xet_ties.specs.Ties.{Slack}
use Rattle.xet_leader.specs.declared.leader.LedPlan.{LedPlan}
use Rattle.xet_leader.specs.Led.{AreLedPlans, BeginsWith, FollowOn, IsLedPlan, LastTermsAre, Led}
use Rattle.xet_leader.specs.LedTerms.{task_of}
use Rattle.xet_leader.specs.LedTerms.{PlanTerm, first_number, led_terms, of_plan, size_in, some_in}

-- ---- terms as tasks

of_terms : (l : LedPlan) (ts : List FileTerm) → map task_of (map (of_plan l) ts) ≡ tasks_of l.number
    (map planned_term ts) (map planned_of l.block.blocks)
of_terms l [] = refl
of_terms l (t ∷ ts) = ap (λ us. task_of (of_plan l t) ∷ us) (of_terms l ts)

pub sizes_are : (ts : List PlanTerm) → map size (map task_of ts) ≡ map size_in ts
sizes_are [] = refl
sizes_are (t ∷ ts) = ap (λ ns. size_in t ∷ ns) (sizes_are ts)

pub length_tasks : (ts : List PlanTerm) → length (map task_of ts) ≡ length ts
length_tasks [] = refl
length_tasks (t ∷ ts) = ap suc (length_tasks ts)

-- those that have bytes
pub some_tasks : (ts : List PlanTerm) → filter has_bytes (map task_of ts) ≡ map task_of (filter some_in ts)
some_tasks [] = refl
some_tasks (t ∷ ts) = by (some_tasks ts) (some_in t) refl
  where
    by : filter has_bytes (map task_of ts) ≡ map task_of (filter some_in ts) → (v : Bool) → some_in t ≡ v
        → filter has_bytes (map task_of (t ∷ ts)) ≡ map task_of (filter some_in (t ∷ ts))
    by r true e = ap (λ (b : Bool). cond b (task_of t ∷ filter has_bytes (map task_of ts))
        (filter has_bytes (map task_of ts))) e ∙ ap (λ us. task_of t ∷ us) r
        ∙ sym (ap (λ (b : Bool). map task_of (cond b (t ∷ filter some_in ts) (filter some_in ts))) e)
    by r false e = ap (λ (b : Bool). cond b (task_of t ∷ filter has_bytes (map task_of ts))
        (filter has_bytes (map task_of ts))) e ∙ r ∙ sym
        (ap (λ (b : Bool). map task_of (cond b (t ∷ filter some_in ts) (filter some_in ts))) e)

-- ---- all terms of the plans

map_drop : (k : ℕ) (ts : List PlanTerm) → drop k (map task_of ts) ≡ map task_of (drop k ts)
map_drop zero ts = refl
map_drop (suc k) [] = refl
map_drop (suc k) (t ∷ ts) = map_drop k ts

-- a plan's terms among the planned ones, and those after them
plan_tasks : (ps : List Task) (l : LedPlan) (ls : List LedPlan)
    → take (length l.block.terms) (drop l.first ps) ≡ tasks_of l.number (map planned_term l.block.terms)
    (map planned_of l.block.blocks) → drop (l.first + length l.block.terms) ps ≡ map task_of (led_terms ls)
    → drop l.first ps ≡ map task_of (led_terms (l ∷ ls))
plan_tasks ps l ls own more =
    let n = length l.block.terms in
    sym (take-append-drop n (drop l.first ps))
    ∙ ap (λ (us : List Task). us ++ drop n (drop l.first ps)) (own ∙ sym (of_terms l l.block.terms))
    ∙ ap (λ (us : List Task). map task_of (map (of_plan l) l.block.terms) ++ us) (drop-drop n l.first ps ∙ more)
    ∙ sym (map-append task_of (map (of_plan l) l.block.terms) (led_terms ls))

past_end : (ps : List Task) (n : ℕ) → length ps ≤ n → drop n ps ≡ []
past_end [] zero h = refl
past_end [] (suc n) h = refl
past_end (p ∷ ps) zero h = absurd (omega (arith, h))
past_end (p ∷ ps) (suc n) h = past_end ps n (omega (arith, h))

pub tasks_are : (g : Setup) (b : RunTold) (es : List Event) (sl : Slack) (stale : List ℕ) (l : LedPlan)
    (ls : List LedPlan) → All (IsLedPlan g b es sl stale) (l ∷ ls) → FollowOn (l ∷ ls)
    → LastTermsAre (length (planned es)) (l ∷ ls) → drop l.first (planned es) ≡ map task_of (led_terms (l ∷ ls))
tasks_are g b es sl stale l [] a f t = plan_tasks (planned es) l []
    (All-head (IsLedPlan g b es sl stale) l [] a).recorded.tasks
    (past_end (planned es) (l.first + length l.block.terms)
    (let e : l.first + length l.block.terms ≡ length (planned es) = t in omega (arith, e)))
tasks_are g b es sl stale l (k ∷ ls) a f t =
    let n : k.first ≡ l.first + length l.block.terms = f.1 in
    plan_tasks (planned es) l (k ∷ ls) (All-head (IsLedPlan g b es sl stale) l (k ∷ ls) a).recorded.tasks
    (ap (λ (j : ℕ). drop j (planned es)) (sym n) ∙ tasks_are g b es sl stale k ls
    (All-tail (IsLedPlan g b es sl stale) l (k ∷ ls) a) f.2 t)

-- those from the first unfinished one on
abbrev pub next_terms : Led → List PlanTerm
next_terms l = drop (l.finished - first_number l.plans) (led_terms l.plans)

nil_drop : (n : ℕ) → drop {A = PlanTerm} n [] ≡ []
nil_drop zero = refl
nil_drop (suc n) = refl

next_by : (g : Setup) (b : RunTold) (es : List Event) (sl : Slack) (stale : List ℕ) (finished : ℕ) (ls : List LedPlan)
    → All (IsLedPlan g b es sl stale) ls → FollowOn ls → LastTermsAre (length (planned es)) ls
    → BeginsWith finished (length (planned es)) ls
    → drop finished (planned es) ≡ map task_of (drop (finished - first_number ls) (led_terms ls))
next_by g b es sl stale finished [] a f t s =
    let e : finished ≡ length (planned es) = s in
    past_end (planned es) finished (omega (arith, e))
    ∙ sym (ap (λ (us : List PlanTerm). map task_of us) (nil_drop (finished - 0)))
next_by g b es sl stale finished (l ∷ ls) a f t s =
    let h : l.first ≤ finished = s.0 in
    let e : finished ≡ l.first + (finished - l.first) = omega (arith, h) in
    ap (λ (j : ℕ). drop j (planned es)) e ∙ sym (drop-drop (finished - l.first) l.first (planned es))
    ∙ ap (λ (us : List Task). drop (finished - l.first) us) (tasks_are g b es sl stale l ls a f t)
    ∙ map_drop (finished - l.first) (led_terms (l ∷ ls))

pub next_tasks : (g : Setup) (b : RunTold) (es : List Event) (sl : Slack) (stale : List ℕ) (l : Led)
    → length (planned es) ≡ l.planned → AreLedPlans g b es sl stale l
    → drop l.finished (planned es) ≡ map task_of (next_terms l)
next_tasks g b es sl stale l n a =
    next_by g b es sl stale l.finished l.plans a.each a.follow
    (subst (λ (k : ℕ). LastTermsAre k l.plans) (sym n) a.last)
    (subst (λ (k : ℕ). BeginsWith l.finished k l.plans) (sym n) a.first)

-- ---- each is a term of a led plan

pub record IsLedTerm (g : Setup) (b : RunTold) (es : List Event) (sl : Slack) (stale : List ℕ) (t : PlanTerm)
    : Type 0 where
  pub plan_is : IsLedPlan g b es sl stale t.plan
  pub listed : Contains t.plan.block.terms t.term

here : {A : Type 0} (x : A) (xs : List A) → Contains (x ∷ xs) x
here x xs = (zero, omega arith, refl)

there : {A : Type 0} (x : A) (xs : List A) (y : A) → Contains xs y → Contains (x ∷ xs) y
there x xs y c = let n = c.1 in (suc c.0, omega (arith, n), c.2)

each_of : (P : PlanTerm → Type 0) (l : LedPlan) (ts : List FileTerm)
    → ((t : FileTerm) → Contains ts t → P (of_plan l t)) → All P (map (of_plan l) ts)
each_of P l [] f = All-nil P
each_of P l (t ∷ ts) f = All-cons P (of_plan l t) (map (of_plan l) ts) (f t (here t ts))
    (each_of P l ts (λ u c. f u (there t ts u c)))

pub led_each : (g : Setup) (b : RunTold) (es : List Event) (sl : Slack) (stale : List ℕ) (ls : List LedPlan)
    → All (IsLedPlan g b es sl stale) ls → All (IsLedTerm g b es sl stale) (led_terms ls)
led_each g b es sl stale [] a = All-nil (IsLedTerm g b es sl stale)
led_each g b es sl stale (l ∷ ls) a =
    All-append (IsLedTerm g b es sl stale) (map (of_plan l) l.block.terms) (led_terms ls)
    (each_of (IsLedTerm g b es sl stale) l l.block.terms
    (λ t c. record { plan_is = All-head (IsLedPlan g b es sl stale) l ls a; listed = c }))
    (led_each g b es sl stale ls (All-tail (IsLedPlan g b es sl stale) l ls a))
