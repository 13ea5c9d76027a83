-- Where planned terms stand in the range.
use Rattle.std.proofs.Common.{◌≡◌, ℕ, zero, suc, ◌+◌, ◌-◌, ◌≤◌, Bool, true, false, cond, List, [], ◌∷◌, ◌++◌, take, Some, refl, sym, subst, ◌∙◌, ap, arith}
use Rattle.std.specs.Prelude.{filter, map, slice_get}
use Rattle.std.specs.List.{sum_by}
use Rattle.std.proofs.lemmas.Bool.{ltb-false}
use Rattle.std.proofs.lemmas.List.{append-nil}
use Rattle.std.proofs.lemmas.List.Sums.{sum_by-cons}
use Rattle.xet_events.specs.declared.event.Event.{Event}
use Rattle.xet_events.specs.declared.event.Event.TheVariants.{Planned, Admit, Fetched, Cached, Expired, Refreshed, Wrote, Fail, Cancel}
use Rattle.xet_events.specs.declared.event.PlannedBlock.{PlannedBlock}
use Rattle.xet_events.specs.declared.event.PlannedTerm.{PlannedTerm}
use Rattle.xet_events.specs.Allowed.{Adjoin, IsAllowed, IsAllowedHistory}
use Rattle.xet_events.specs.Events.{Task, last_of, planned, size, tasks_in, tasks_of}
use Rattle.xet_events.proofs.CallerLemmas.{kept_along, planned-push}
use Rattle.xet_ties.specs.Saids.{has_bytes, some_of}
use Rattle.xet_ties.specs.Ties.{FirstStarts}

-- each term starts where the one before it ends, and none is reversed
abbrev pub Chain : ℕ → List Task → Type 0
Chain place [] = Unit {0}
Chain place (t ∷ ts) = (t.term.byte_range.start ≡ place) × (place ≤ t.term.byte_range.end)
    × Chain t.term.byte_range.end ts

abbrev end_of : ℕ → List Task → ℕ
end_of place ts = last_of place (map (λ t. t.term.byte_range.end) ts)

chain_append : (place : ℕ) (xs ys : List Task) → Chain place xs → Chain (end_of place xs) ys → Chain place (xs ++ ys)
chain_append place [] ys c d = d
chain_append place (x ∷ xs) ys c d = (c.0, c.1, chain_append x.term.byte_range.end xs ys c.2 d)

chain_tasks : (plan : ℕ) (bs : List PlannedBlock) (place n : ℕ) (ts : List PlannedTerm) → Adjoin place n ts
    → Chain place (tasks_of plan ts bs)
chain_tasks plan bs place n [] a = tt
chain_tasks plan bs place n (t ∷ ts) a = (a.0, a.1, chain_tasks plan bs t.byte_range.end n ts a.3)

-- where the first one starts
abbrev start_of : ℕ → List Task → ℕ
start_of place [] = place
start_of place (t ∷ ts) = t.term.byte_range.start

abbrev Chained : List Task → Type 0
Chained ts = Chain (start_of 0 ts) ts

more : (ts : List Task) (plan q n : ℕ) (bs : List PlannedBlock) (us : List PlannedTerm) → Chained ts
    → Adjoin (end_of q ts) n us → Chained (ts ++ tasks_of plan us bs)
more [] plan q n bs [] c a = tt
more [] plan q n bs (u ∷ us) c a =
    let e : u.byte_range.start ≡ q = a.0 in
    subst (λ (k : ℕ). Chain k (tasks_of plan (u ∷ us) bs)) (sym e) (chain_tasks plan bs q n (u ∷ us) a)
more (t ∷ ts) plan q n bs us c a =
    chain_append t.term.byte_range.start (t ∷ ts) (tasks_of plan us bs) c
    (chain_tasks plan bs (end_of t.term.byte_range.start (t ∷ ts)) n us a)

quiet : (es : List Event) (e : Event) → tasks_in e ≡ [] → Chained (planned es) → Chained (planned (es ++ e ∷ []))
quiet es e none c = subst Chained (sym (planned-push es e ∙ ap (λ (l : List Task). planned es ++ l) none
    ∙ append-nil (planned es))) c

step : (es : List Event) (e : Event) → IsAllowed es e → Chained (planned es) → Chained (planned (es ++ e ∷ []))
step es (Planned plan query terms blocks) a c =
    subst Chained (sym (planned-push es (Planned plan query terms blocks)))
    (more (planned es) plan query.start _ blocks terms c a.2)
step es (Admit limit) a c = quiet es (Admit limit) refl c
step es (Fetched lane plan block) a c = quiet es (Fetched lane plan block) refl c
step es (Cached plan block) a c = quiet es (Cached plan block) refl c
step es (Expired lane plan block) a c = quiet es (Expired lane plan block) refl c
step es (Refreshed plan) a c = quiet es (Refreshed plan) refl c
step es (Wrote taken) a c = quiet es (Wrote taken) refl c
step es (Fail error) a c = quiet es (Fail error) refl c
step es Cancel a c = quiet es Cancel refl c

chained : (es : List Event) → IsAllowedHistory es → Chained (planned es)
chained es a = kept_along (λ l. Chained (planned l)) step tt es a

from_start : (place : ℕ) (ts : List Task) → FirstStarts place ts → Chained ts → Chain place ts
from_start place [] f c = tt
from_start place (t ∷ ts) f c = subst (λ (k : ℕ). Chain k (t ∷ ts)) f c

-- an empty term moves nothing
some_chain : (place : ℕ) (ts : List Task) → Chain place ts → Chain place (filter has_bytes ts)
some_chain place [] c = tt
some_chain place (t ∷ ts) c = by (some_chain t.term.byte_range.end ts c.2) (has_bytes t) refl
  where
    by : Chain t.term.byte_range.end (filter has_bytes ts) → (v : Bool) → has_bytes t ≡ v
        → Chain place (cond v (t ∷ filter has_bytes ts) (filter has_bytes ts))
    by rest true e = (c.0, c.1, rest)
    by rest false e =
        let none = ltb-false 0 (size t) e in
        let start = c.0 in
        let low = c.1 in
        let same : t.term.byte_range.end ≡ place = omega (arith, none, start, low) in
        subst (λ (k : ℕ). Chain k (filter has_bytes ts)) same rest

place_at : (place : ℕ) (ts : List Task) (i : ℕ) (t : Task) → Chain place ts → slice_get ts i ≡ Some t
    → t.term.byte_range.start ≡ place + sum_by size (take i ts)
place_at place [] i t c h = absurd (cc)
place_at place (u ∷ us) zero t c h =
    let e : u ≡ t = cc in
    let nil : sum_by size [] ≡ 0 = refl in
    let start : u.term.byte_range.start ≡ place = c.0 in
    ap (λ (z : Task). z.term.byte_range.start) (sym e) ∙ start ∙ omega (arith, nil)
place_at place (u ∷ us) (suc i) t c h =
    let next = place_at u.term.byte_range.end us i t c.2 h in
    let sum = sum_by-cons size u (take i us) in
    let start = c.0 in
    let low = c.1 in
    omega (arith, next, sum, start, low)

-- the planned term with bytes of this number starts where those before it end, the first where the range does
pub starts_at : (place : ℕ) (es : List Event) (i : ℕ) (t : Task) → IsAllowedHistory es → FirstStarts place (planned es)
    → slice_get (some_of es) i ≡ Some t → t.term.byte_range.start ≡ place + sum_by size (take i (some_of es))
starts_at place es i t a f h = place_at place (some_of es) i t
    (some_chain place (planned es) (from_start place (planned es) f (chained es a))) h
