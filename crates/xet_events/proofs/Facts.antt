-- What holds of every allowed history.
use Rattle.std.proofs.Common.{◌≡◌, ℕ, suc, zero, ◌+◌, ◌≤◌, ◌<◌, ◌⊎◌, Bool, true, false, cond, List, [], ◌∷◌, ◌++◌, length, take, Option, Some, None, refl, sym, ◌∙◌, ap, arith, length-append}
use Rattle.std.specs.Prelude.{map, filter, count_by, slice_get, MatchOption}
use Rattle.std.specs.List.{sum_by}
use Rattle.std.proofs.lemmas.List.{append-nil, take-append-le}
use Rattle.std.proofs.lemmas.List.Sums.{sum_by_push, sum_by-cons, sum_by-append}
use Rattle.xet_events.specs.declared.event.PlannedTerm.{PlannedTerm}
use Rattle.xet_events.specs.declared.event.PlannedBlock.{PlannedBlock}
use Rattle.xet_events.specs.declared.event.Event.{Event}
use Rattle.xet_events.specs.declared.event.Event.TheVariants.{Planned, Admit, Fetched, Cached, Expired, Refreshed, Wrote, Fail, Cancel}
use Rattle.xet_events.specs.Events.{Task, size, last_of, planned, planned_end, tasks_of, tasks_in, is_admit, admitted, written, taken_in, unwritten, ended, has_more, unfinished, is_kept}
use Rattle.xet_events.specs.Allowed.{Adjoin, MayWrite, IsAllowed, IsAllowedHistory}
use Rattle.xet_events.proofs.Push.{count_by-push, planned-push, written-push, end-push}
use Rattle.xet_events.proofs.Histories.{kept_along}

-- where the first of the terms starts
abbrev pub first_of : ℕ → List Task → ℕ
first_of place [] = place
first_of place (t ∷ ts) = t.term.byte_range.start

abbrev pub ends : List Task → List ℕ
ends ts = map (λ t. t.term.byte_range.end) ts

pub record Facts (es : List Event) : Type 0 where
  pub counted : count_by is_admit es ≤ length (planned es)
  pub covered : written es ≤ sum_by size (admitted es)
  pub sums : (place : ℕ) → first_of place (planned es) + sum_by size (planned es) ≡ planned_end es place

-- the element at a place, and the elements up to it
pub next_in : {A : Type 0} (xs : List A) (i : ℕ) (x : A) → slice_get xs i ≡ Some x → (i < length xs) × (take (suc i) xs ≡ take i xs ++ x ∷ [])
next_in [] i x e = absurd (cc)
next_in (y ∷ ys) zero x e = (omega arith, cc)
next_in (y ∷ ys) (suc i) x e = let r = next_in ys i x e in let h : i < length ys = r.0 in (omega arith, ap (λ l. y ∷ l) r.1)

-- the admitted terms stay where none is admitted
pub admitted-same : (es : List Event) (e : Event) → count_by is_admit es ≤ length (planned es) → is_admit e ≡ false → admitted (es ++ e ∷ []) ≡ admitted es
admitted-same es e h off =
    let n : count_by is_admit (es ++ e ∷ []) ≡ count_by is_admit es = count_by-push is_admit es e ∙ ap (λ b. count_by is_admit es + cond b 1 0) off ∙ omega arith in
    ap (λ (k : ℕ). take k (planned (es ++ e ∷ []))) n
    ∙ ap (λ l. take (count_by is_admit es) l) (planned-push es e)
    ∙ take-append-le (count_by is_admit es) (planned es) (tasks_in e) h

-- one more is admitted by Admit
pub admitted-more : (limit : ℕ) (es : List Event) (t : Task) → slice_get (planned es) (count_by is_admit es) ≡ Some t → admitted (es ++ Admit limit ∷ []) ≡ admitted es ++ t ∷ []
admitted-more limit es t e =
    let n : count_by is_admit (es ++ Admit limit ∷ []) ≡ suc (count_by is_admit es) = count_by-push is_admit es (Admit limit) ∙ omega arith in
    ap (λ (k : ℕ). take k (planned (es ++ Admit limit ∷ []))) n
    ∙ ap (λ l. take (suc (count_by is_admit es)) l) (planned-push es (Admit limit) ∙ append-nil (planned es))
    ∙ (next_in (planned es) (count_by is_admit es) t e).1

-- the oldest unfinished term ends within all
pub front_end : (w p : ℕ) (ts : List Task) (c : ℕ × Task) → slice_get (filter (has_more w) (ended p ts)) 0 ≡ Some c → c.0 ≤ p + sum_by size ts
front_end w p [] c e = absurd (cc)
front_end w p (t ∷ ts) c e = go (front_end w (p + size t) ts c) (has_more w (p + size t, t)) e
  where
    go : (slice_get (filter (has_more w) (ended (p + size t) ts)) 0 ≡ Some c → c.0 ≤ (p + size t) + sum_by size ts)
        → (b : Bool) → slice_get (cond b ((p + size t, t) ∷ filter (has_more w) (ended (p + size t) ts)) (filter (has_more w) (ended (p + size t) ts))) 0 ≡ Some c → c.0 ≤ p + sum_by size (t ∷ ts)
    go next true e = let h : c.0 ≡ p + size t = cc in omega (arith, sum_by-cons size t ts)
    go next false e = let h = next e in omega (arith, sum_by-cons size t ts)

-- what may be written is admitted
pub may_write : (es : List Event) (taken : ℕ) → MayWrite es taken → written es + taken ≤ sum_by size (admitted es)
may_write es taken m = go (slice_get (unfinished es) 0) refl m
  where
    go : (o : Option (ℕ × Task)) → slice_get (unfinished es) 0 ≡ o → MatchOption o ⊥ (λ c. (is_kept es c.1.plan c.1.term.block ≡ true) × (written es + taken ≤ c.0)) → written es + taken ≤ sum_by size (admitted es)
    go None e m = absurd m
    go (Some c) e m = let h = front_end (written es) 0 (admitted es) c e in let k : written es + taken ≤ c.0 = m.1 in omega arith

-- an event that plans and admits nothing
quiet : (es : List Event) (e : Event) → tasks_in e ≡ [] → is_admit e ≡ false → Facts es → written es + taken_in e ≤ sum_by size (admitted es) → Facts (es ++ e ∷ [])
quiet es e none off f w =
    let n : count_by is_admit (es ++ e ∷ []) ≡ count_by is_admit es = count_by-push is_admit es e ∙ ap (λ b. count_by is_admit es + cond b 1 0) off ∙ omega arith in
    let pl : planned (es ++ e ∷ []) ≡ planned es = planned-push es e ∙ ap (λ l. planned es ++ l) none ∙ append-nil (planned es) in
    let a = admitted-same es e f.counted off in
    let lengths : length (planned (es ++ e ∷ [])) ≡ length (planned es) = ap length pl in
    let all : sum_by size (admitted (es ++ e ∷ [])) ≡ sum_by size (admitted es) = ap (λ l. sum_by size l) a in
    record {
      counted = omega (arith, f.counted, lengths, n);
      covered = omega (arith, written-push es e, all, w);
      sums = λ place. ap (λ (l : List Task). first_of place l + sum_by size l) pl ∙ f.sums place ∙ sym (ap (λ (l : List Task). last_of place (map (λ t. t.term.byte_range.end) l)) pl);
    }

-- terms that adjoin have as many bytes as lie from the place on to their end
pub adjoin_sums : (plan : ℕ) (blocks : List PlannedBlock) (place n : ℕ) (ts : List PlannedTerm) → Adjoin place n ts → place + sum_by size (tasks_of plan ts blocks) ≡ last_of place (ends (tasks_of plan ts blocks))
adjoin_sums plan blocks place n [] a = omega arith
adjoin_sums plan blocks place n (t ∷ ts) a =
    let next = adjoin_sums plan blocks t.byte_range.end n ts a.3 in
    let s = sum_by-cons size (record { plan = plan; term = t; blocks = blocks }) (tasks_of plan ts blocks) in
    let from : t.byte_range.start ≡ place = a.0 in
    let to : place ≤ t.byte_range.end = a.1 in
    let here : place + sum_by size (tasks_of plan (t ∷ ts) blocks) ≡ t.byte_range.end + sum_by size (tasks_of plan ts blocks) = omega arith in
    here ∙ next

-- more terms after those that were planned
sums_more : (plan n : ℕ) (blocks : List PlannedBlock) (xs : List Task) (ts : List PlannedTerm) (q place : ℕ) → first_of place xs + sum_by size xs ≡ last_of place (ends xs) → Adjoin (last_of q (ends xs)) n ts
    → first_of place (xs ++ tasks_of plan ts blocks) + (sum_by size xs + sum_by size (tasks_of plan ts blocks)) ≡ last_of (last_of place (ends xs)) (ends (tasks_of plan ts blocks))
sums_more plan n blocks [] [] q place h a = omega arith
sums_more plan n blocks [] (t ∷ ts) q place h a =
    let s = adjoin_sums plan blocks q n (t ∷ ts) a in
    let from : t.byte_range.start ≡ q = a.0 in
    let zero_is : sum_by size [] ≡ 0 = refl in
    let here : t.byte_range.start + (sum_by size [] + sum_by size (tasks_of plan (t ∷ ts) blocks)) ≡ q + sum_by size (tasks_of plan (t ∷ ts) blocks) = omega arith in
    here ∙ s
sums_more plan n blocks (x ∷ xs) ts q place h a =
    let s = adjoin_sums plan blocks (last_of x.term.byte_range.end (ends xs)) n ts a in
    let here : x.term.byte_range.start + (sum_by size (x ∷ xs) + sum_by size (tasks_of plan ts blocks)) ≡ last_of x.term.byte_range.end (ends xs) + sum_by size (tasks_of plan ts blocks) = omega (arith, h) in
    here ∙ s

step : (es : List Event) (e : Event) → IsAllowed es e → Facts es → Facts (es ++ e ∷ [])
step es (Planned plan query terms blocks) a f =
    let e : Event = Planned plan query terms blocks in
    let new = tasks_of plan terms blocks in
    let pl = planned-push es e in
    let n : count_by is_admit (es ++ e ∷ []) ≡ count_by is_admit es + 0 = count_by-push is_admit es e in
    let ad = admitted-same es e f.counted refl in
    let lengths : length (planned (es ++ e ∷ [])) ≡ length (planned es) + length new = ap length pl ∙ length-append (planned es) new in
    let all : sum_by size (admitted (es ++ e ∷ [])) ≡ sum_by size (admitted es) = ap (λ l. sum_by size l) ad in
    record {
      counted = omega (arith, f.counted, lengths, n);
      covered = omega (arith, written-push es e, all, f.covered);
      sums = λ place.
          ap (λ (l : List Task). first_of place l + sum_by size l) pl
          ∙ ap (λ (k : ℕ). first_of place (planned es ++ new) + k) (sum_by-append size (planned es) new)
          ∙ sums_more plan (length blocks) blocks (planned es) terms query.start place (f.sums place) a.2
          ∙ sym (end-push es e place);
    }
step es (Admit limit) a f = go (slice_get (planned es) (count_by is_admit es)) refl a.1
  where
    go : (o : Option Task) → slice_get (planned es) (count_by is_admit es) ≡ o → MatchOption o ⊥ (λ t. (unwritten es ≡ 0) ⊎ (unwritten es + size t ≤ limit)) → Facts (es ++ Admit limit ∷ [])
    go None e m = absurd m
    go (Some t) e m =
        let pl : planned (es ++ Admit limit ∷ []) ≡ planned es = planned-push es (Admit limit) ∙ append-nil (planned es) in
        let n : count_by is_admit (es ++ Admit limit ∷ []) ≡ count_by is_admit es + 1 = count_by-push is_admit es (Admit limit) in
        let ad = admitted-more limit es t e in
        let within = (next_in (planned es) (count_by is_admit es) t e).0 in
        let lengths : length (planned (es ++ Admit limit ∷ [])) ≡ length (planned es) = ap length pl in
        let all : sum_by size (admitted (es ++ Admit limit ∷ [])) ≡ sum_by size (admitted es) + size t = ap (λ l. sum_by size l) ad ∙ sum_by_push size (admitted es) t in
        record {
          counted = omega (arith, lengths, n, within);
          covered = omega (arith, written-push es (Admit limit), all, f.covered);
          sums = λ place. ap (λ (l : List Task). first_of place l + sum_by size l) pl ∙ f.sums place ∙ sym (ap (λ (l : List Task). last_of place (map (λ t. t.term.byte_range.end) l)) pl);
        }
step es (Fetched lane plan block) a f = quiet es (Fetched lane plan block) refl refl f (omega (arith, f.covered))
step es (Cached plan block) a f = quiet es (Cached plan block) refl refl f (omega (arith, f.covered))
step es (Expired lane plan block) a f = quiet es (Expired lane plan block) refl refl f (omega (arith, f.covered))
step es (Refreshed plan) a f = quiet es (Refreshed plan) refl refl f (omega (arith, f.covered))
step es (Wrote taken) a f = quiet es (Wrote taken) refl refl f (may_write es taken a.2)
step es (Fail error) a f = quiet es (Fail error) refl refl f (omega (arith, f.covered))
step es Cancel a f = quiet es Cancel refl refl f (omega (arith, f.covered))

pub facts : (es : List Event) → IsAllowedHistory es → Facts es
facts es a = kept_along (λ l. Facts l) step (record { counted = omega arith; covered = omega arith; sums = λ place. omega arith }) es a
