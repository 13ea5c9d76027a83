-- The open terms of a history are those of a leader's plans.
use Rattle.std.proofs.Common.{◌≡◌, ℕ, ◌+◌, ◌-◌, ◌≤◌, suc, zero, List, [], ◌∷◌, ◌++◌, length, take, drop, refl, sym, subst, ◌∙◌, ap, arith}
use Rattle.std.specs.Prelude.{All, map}
use Rattle.std.specs.List.{flat_map}
use Rattle.std.proofs.lemmas.List.{drop-drop, drop_all, length-map, take-append-drop}
use Rattle.std.proofs.lemmas.List.Elements.{All-head, All-tail}
use Rattle.xet_base.proofs.CallerLemmas.{drop-nil, take-nil}
use Rattle.xet_blocks.specs.declared.reconstruction_terms.file_term.FileTerm.{FileTerm}
use Rattle.xet_events.specs.declared.event.Event.{Event}
use Rattle.xet_events.specs.declared.event.PlannedTerm.{PlannedTerm}
use Rattle.xet_events.specs.Events.{Task, planned, tasks_of}
use Rattle.xet_history.specs.TrueHistory.{planned_term}
use Rattle.xet_ties.specs.Saids.{planned_of}
use Rattle.xet_ties.specs.Setup.{RunTold, Setup}
use Rattle.xet_ties.specs.Ties.{Slack}
use Rattle.xet_ties.specs.Windows.{open_terms}
use Rattle.xet_leader.specs.declared.leader.LedPlan.{LedPlan}
use Rattle.xet_leader.specs.Lacking.{first_of}
use Rattle.xet_leader.specs.Led.{BeginsWith, FollowOn, IsLed, IsLedPlan, IsRecordedPlan, LastTermsAre, Led}

-- some terms of a plan, as the history has them
abbrev pub tasks_from : LedPlan → List FileTerm → List Task
tasks_from l ts = tasks_of l.number (map planned_term ts) (map planned_of l.block.blocks)

-- the terms of these plans, of which some are passed over, and then so many are taken
abbrev pub tasks_open : ℕ → ℕ → List LedPlan → List Task
tasks_open skip count [] = []
tasks_open skip count (l ∷ ls) = tasks_from l (take count (drop skip l.block.terms)) ++ tasks_open
    (skip - length l.block.terms) (count - (length l.block.terms - skip)) ls

abbrev pub all_tasks : List LedPlan → List Task
all_tasks ls = flat_map (λ (l : LedPlan). tasks_from l l.block.terms) ls

-- ---- parts of joined lists

-- the same part of joined lists, by its place and length
same_part : {A : Type 0} (c k s j : ℕ) (xs : List A) → c ≡ k → s ≡ j → take c (drop s xs) ≡ take k (drop j xs)
same_part c k s j xs p q = ap (λ (n : ℕ). take n (drop s xs)) p ∙ ap (λ (n : ℕ). take k (drop n xs)) q

pub part-append : {A : Type 0} (c s : ℕ) (xs ys : List A)
    → take c (drop s (xs ++ ys)) ≡ take c (drop s xs) ++ take (c - (length xs - s)) (drop (s - length xs) ys)
part-append {A} c s [] ys =
    let none : take c (drop s []) ≡ [] = ap (take {A = A} c) (drop-nil {A = A} s) ∙ take-nil {A = A} c in
    same_part c (c - (0 - s)) s (s - 0) ys (omega arith) (omega arith)
    ∙ ap (λ (l : List A). l ++ take (c - (0 - s)) (drop (s - 0) ys)) (sym none)
part-append {A} zero zero (x ∷ xs) ys = same_part 0 (0 - (suc (length xs) - 0)) 0 (0 - suc (length xs)) ys
    (omega arith) (omega arith)
part-append {A} (suc c) zero (x ∷ xs) ys =
    ap (λ (l : List A). x ∷ l) (part-append c 0 xs ys
    ∙ ap (λ (l : List A). take c xs ++ l) (same_part (c - (length xs - 0)) (suc c - (suc (length xs) - 0))
    (0 - length xs) (0 - suc (length xs)) ys (omega arith) (omega arith)))
part-append {A} c (suc s) (x ∷ xs) ys =
    part-append c s xs ys
    ∙ ap (λ (l : List A). take c (drop s xs) ++ l)
    (same_part (c - (length xs - s)) (c - (suc (length xs) - suc s)) (s - length xs) (suc s - suc (length xs)) ys
    (omega arith) (omega arith))

-- a part of mapped lists
part-map : {A B : Type 0} (f : A → B) (c s : ℕ) (xs : List A)
    → take c (drop s (map f xs)) ≡ map f (take c (drop s xs))
part-map f zero zero xs = refl
part-map f (suc c) zero [] = refl
part-map f (suc c) zero (x ∷ xs) = ap (λ l. f x ∷ l) (part-map f c 0 xs)
part-map f zero (suc s) xs = refl
part-map f (suc c) (suc s) [] = refl
part-map f (suc c) (suc s) (x ∷ xs) = part-map f (suc c) s xs

part-tasks : (l : LedPlan) (c s : ℕ) → take c (drop s (tasks_from l l.block.terms)) ≡ tasks_from l
    (take c (drop s l.block.terms))
part-tasks l c s =
    let of : PlannedTerm → Task = λ t. record { plan = l.number; term = t; blocks = map planned_of l.block.blocks } in
    part-map of c s (map planned_term l.block.terms) ∙ ap (map of) (part-map planned_term c s l.block.terms)

tasks_length : (l : LedPlan) → length (tasks_from l l.block.terms) ≡ length l.block.terms
tasks_length l =
    let of : PlannedTerm → Task = λ t. record { plan = l.number; term = t; blocks = map planned_of l.block.blocks } in
    length-map (map planned_term l.block.terms) of ∙ length-map l.block.terms planned_term

-- ---- plans

pub open_part : (s c : ℕ) (ls : List LedPlan) → take c (drop s (all_tasks ls)) ≡ tasks_open s c ls
open_part s c [] = ap (take {A = Task} c) (drop-nil {A = Task} s) ∙ take-nil {A = Task} c
open_part s c (l ∷ ls) =
    let xs = tasks_from l l.block.terms in
    let n = tasks_length l in
    part-append c s xs (all_tasks ls)
    ∙ ap (λ (ts : List Task). ts ++ take (c - (length xs - s)) (drop (s - length xs) (all_tasks ls)))
    (part-tasks l c s)
    ∙ ap (λ (k : ℕ). tasks_from l (take c (drop s l.block.terms)) ++ take (c - (k - s)) (drop (s - k) (all_tasks ls)))
    n
    ∙ ap (λ (ts : List Task). tasks_from l (take c (drop s l.block.terms)) ++ ts)
    (open_part (s - length l.block.terms) (c - (length l.block.terms - s)) ls)

split_at : (es : List Event) (l : LedPlan) → IsRecordedPlan es l
    → drop l.first (planned es) ≡ tasks_from l l.block.terms ++ drop (l.first + length l.block.terms) (planned es)
split_at es l r =
    let n = length l.block.terms in
    let rest = drop l.first (planned es) in
    sym (take-append-drop n rest) ∙ ap (λ (ts : List Task). ts ++ drop n rest) r.tasks
    ∙ ap (λ (ts : List Task). tasks_from l l.block.terms ++ ts) (drop-drop n l.first (planned es))

-- the terms from those of the first plan on
rest_is : (g : Setup) (b : RunTold) (es : List Event) (sl : Slack) (stale : List ℕ) (l : LedPlan) (ls : List LedPlan)
    → FollowOn (l ∷ ls) → LastTermsAre (length (planned es)) (l ∷ ls) → All (IsLedPlan g b es sl stale) (l ∷ ls)
    → drop l.first (planned es) ≡ all_tasks (l ∷ ls)
rest_is g b es sl stale l [] f e a =
    let x : l.first + length l.block.terms ≡ length (planned es) = e in
    split_at es l (All-head (IsLedPlan g b es sl stale) l [] a).recorded
    ∙ ap (λ (ts : List Task). tasks_from l l.block.terms ++ ts)
    (drop_all (l.first + length l.block.terms) (planned es) (omega arith))
rest_is g b es sl stale l (k ∷ ks) f e a =
    split_at es l (All-head (IsLedPlan g b es sl stale) l (k ∷ ks) a).recorded
    ∙ ap (λ (ts : List Task). tasks_from l l.block.terms ++ ts)
    (ap (λ (n : ℕ). drop n (planned es)) (sym f.1)
    ∙ rest_is g b es sl stale k ks f.2 e (All-tail (IsLedPlan g b es sl stale) l (k ∷ ks) a))

-- so the open terms
pub open_is : (g : Setup) (b : RunTold) (es : List Event) (sl : Slack) (stale : List ℕ) (l : Led)
    → IsLed g b es sl stale l → open_terms es l.finished ≡ tasks_open (l.finished - first_of l.plans)
    (l.admitted - l.finished) l.plans
open_is g b es sl stale l a =
    let c = a.counted in
    ap (λ (n : ℕ). take (n - l.finished) (drop l.finished (planned es))) (sym c.admitted_are)
    ∙ go l.plans a.plans.first a.plans.follow (ends l.plans (sym c.planned_are) a.plans.last) a.plans.each
    (sym c.planned_are)
  where
    ends : (ls : List LedPlan) → l.planned ≡ length (planned es) → LastTermsAre l.planned ls
        → LastTermsAre (length (planned es)) ls
    ends ls h e = subst (λ (n : ℕ). LastTermsAre n ls) h e

    go : (ls : List LedPlan) → BeginsWith l.finished l.planned ls → FollowOn ls
        → LastTermsAre (length (planned es)) ls → All (IsLedPlan g b es sl stale) ls → l.planned ≡ length (planned es)
        → take (l.admitted - l.finished) (drop l.finished (planned es)) ≡ tasks_open (l.finished - first_of ls)
        (l.admitted - l.finished) ls
    go [] z f e h p = let none : drop l.finished (planned es) ≡ [] =
        drop_all l.finished (planned es) (let x : l.finished ≡ l.planned = z in omega arith) in
        ap (take {A = Task} (l.admitted - l.finished)) none ∙ take-nil {A = Task} (l.admitted - l.finished)
    go (k ∷ ks) z f e h p =
        let before : k.first ≤ l.finished = z.0 in
        let at : k.first + (l.finished - k.first) ≡ l.finished = omega arith in
        let later : drop l.finished (planned es) ≡ drop (l.finished - k.first) (all_tasks (k ∷ ks)) =
        ap (λ (n : ℕ). drop n (planned es)) (sym at) ∙ sym (drop-drop (l.finished - k.first) k.first (planned es))
        ∙ ap (λ (ts : List Task). drop (l.finished - k.first) ts) (rest_is g b es sl stale k ks f e h) in
        ap (λ (ts : List Task). take (l.admitted - l.finished) ts) later
        ∙ open_part (l.finished - k.first) (l.admitted - l.finished) (k ∷ ks)
