-- What is left of a run after a round.
use Rattle.std.proofs.Common.{◌≡◌, ℕ, zero, suc, ◌+◌, ◌-◌, ◌^◌, ◌<◌, ◌≤◌, Bool, true, false, cond, List, [], ◌∷◌, ◌++◌, length, take, drop, refl, sym, subst, ◌∙◌, ap, arith, append_assoc, length-append, ⊎_elim, Ok}
use Rattle.std.specs.Prelude.{Result, ◌==◌, count_by, map, nat_lt, slice_get}
use Rattle.std.specs.List.{AllZip, concat}
use Rattle.std.proofs.lemmas.Bool.{and_from, eq-eqb, false≢true, lt-ltb}
use Rattle.std.proofs.lemmas.List.{append-nil, length-drop, length-map}
use Rattle.xet_outside.specs.Told.{SinkTold}
use Rattle.xet_outside.proofs.CallerLemmas.{count_by-cons}
use Rattle.xet_claims.specs.ClaimViews.{once_below, times}
use Rattle.xet_error.specs.declared.error.FileReconstructionError.{FileReconstructionError}
use Rattle.xet_events.specs.declared.event.Event.{Event}
use Rattle.xet_events.specs.declared.event.Event.TheVariants.{Expired, Fetched, Wrote}
use Rattle.xet_events.specs.Allowed.{AllowedAfter, IsAllowed}
use Rattle.xet_events.specs.Events.{Task, expires, is_admit, is_kept, planned, size}
use Rattle.xet_ties.specs.declared.lane_step.LaneStep.{LaneStep}
use Rattle.xet_ties.specs.declared.lane_step.LaneStep.TheVariants as step
use Rattle.xet_ties.specs.Saids.{has_bytes}
use Rattle.xet_ties.specs.Setup.{RunTold, Setup}
use Rattle.xet_ties.specs.Recordings.{expired_on, fetched_on, lane_events, wrote_of}
use Rattle.xet_ties.proofs.CallerLemmas.{count-append, round_allowed}
use Rattle.xet_lane.specs.declared.joined.Joined.{Joined}
use Rattle.xet_lane.specs.declared.lane.Fetch.{Fetch}
use Rattle.xet_lane.specs.Fetches.{NoneFailed, ask_of}
use Rattle.xet_lane.specs.Ends.{End, NoneEndedBadly, ended, steps_of}
use Rattle.xet_lane.proofs.CallerLemmas.{no_error}
use Rattle.xet_lanes.specs.Rounds.{IsWhole, RoundTold}
use Rattle.xet_leader.specs.Advances.{advanced}
use Rattle.xet_leader.specs.declared.leader.LedPlan.{LedPlan}
use Rattle.xet_leader.specs.declared.missing_blocks.BlockAt.{BlockAt}
use Rattle.xet_stages.specs.declared.outcomes.Outcome.{Outcome}
use Rattle.xet_leader.specs.FetchLists.{Each, IsFetchList, IsKeptOrListed, place_of}
use Rattle.xet_leader.specs.Fetching.{AreFetches}
use Rattle.xet_turns.specs.RoundCalls.{FetchedBeside, IsPrepared, fetched_led}
use Rattle.xet_leader.specs.Lacking.{lists}
use Rattle.xet_leader.specs.Led.{IsCounted, Led}
use Rattle.xet_stages.specs.Measures.{LeavesLess, measure, unfinished_terms}
use Rattle.xet_stages.specs.Outcomes.{TookOutcome, plans_after}
use Rattle.xet_stages.specs.RoundRecords.{expired_events, fetched_events, lanes_events, lanes_of, window_events}
use Rattle.xet_stages.specs.RunWindows.{IsWindow}
use Rattle.xet_leader.specs.Steady.{Moment}
use Rattle.xet_turns.proofs.LaneEvents.{lanes_each, late_each, round_each, served_each, wrote_each}
use Rattle.xet_stages.proofs.CallerLemmas.{PlansNone, measure_expired, measure_fetched, measure_finished, measure_rest, none_rises}
use Rattle.xet_leader.proofs.CallerLemmas.{each_append}
use Rattle.xet_turns.proofs.RoundAsks.{are_led_asks}

-- ---- no more is left

-- fewer terms are not written
fewer_left : (g : Setup) (es : List Event) (l k : Led) → unfinished_terms k ≤ unfinished_terms l
    → measure g es k ≤ measure g es l
fewer_left g es l k h = none_rises _ _ _ _ _ _ _ _ (omega arith) (omega arith) (omega arith) h

-- events that plan and admit nothing
pub each_rest : (g : Setup) (es fs : List Event) (l k : Led) → Each PlansNone fs
    → unfinished_terms k ≤ unfinished_terms l → measure g (es ++ fs) k ≤ measure g es l
each_rest g es [] l k n h =
    subst (λ (x : List Event). measure g x k ≤ measure g es l) (sym (append-nil es)) (fewer_left g es l k h)
each_rest g es (e ∷ fs) l k n h =
    let a = measure_rest g es e l k n.0 h in
    let next = each_rest g (es ++ e ∷ []) fs k k n.1 (omega arith) in
    let r =
    subst (λ (x : List Event). measure g x k ≤ measure g (es ++ e ∷ []) k) (append_assoc es (e ∷ []) fs) next in
    omega (arith, a, r)

-- the events of a join
join_each : (P : Event → Type 0) → ((n p k : ℕ) → P (Fetched n p k)) → ((n p k : ℕ) → P (Expired n p k))
    → ((n : ℕ) → P (Wrote n)) → (ls : List (List LaneStep)) (ns : List ℕ) → Each P (lanes_events ls ++ wrote_of ns)
join_each P f e w ls ns = each_append P (lanes_events ls) (wrote_of ns) (round_each P f e ls) (wrote_each P w ns)

join_rest : (ls : List (List LaneStep)) (ns : List ℕ) → Each PlansNone (lanes_events ls ++ wrote_of ns)
join_rest ls ns =
    join_each PlansNone (λ n p k. record { query = refl; tasks = refl; admit = refl })
    (λ n p k. record { query = refl; tasks = refl; admit = refl })
    (λ n. record { query = refl; tasks = refl; admit = refl }) ls ns

-- ---- a lane that made a step has an event

lane_count : (lane : ℕ) (ss : List LaneStep) → NoneFailed ss
    → length (fetched_on lane ss) + length (expired_on lane ss) ≡ length ss
lane_count lane [] h = refl
lane_count lane (step.Served p k d ∷ ss) h = let r = lane_count lane ss h.1 in omega (arith, r)
lane_count lane (step.Expired p k ∷ ss) h = let r = lane_count lane ss h.1 in omega (arith, r)
lane_count lane (step.Failed e ∷ ss) h = let z = h.0 in absurd (cc)

-- as many events as numbers were drawn
lanes_count : (lane : ℕ) (drawn : List (List ℕ)) (es : List End) → AllZip IsWhole drawn es
    → length (lane_events fetched_on lane (steps_of es)) + length (lane_events expired_on lane (steps_of es))
    ≡ length (concat drawn)
lanes_count lane [] [] z = refl
lanes_count lane [] (e ∷ es) z = absurd z
lanes_count lane (d ∷ ds) [] z = absurd z
lanes_count lane (d ∷ ds) (e ∷ es) z =
    let a = lane_count lane e.steps z.0.1 in
    let b = z.0.0 in
    let r = lanes_count (lane + 1) ds es z.1 in
    let f = length-append (fetched_on lane e.steps) (lane_events fetched_on (lane + 1) (steps_of es)) in
    let x = length-append (expired_on lane e.steps) (lane_events expired_on (lane + 1) (steps_of es)) in
    let c = length-append d (concat ds) in
    omega (arith, a, b, r, f, x, c)

-- some number was drawn
some_drawn : (xs : List ℕ) (count : ℕ) → ((x : ℕ) → times x xs ≡ once_below x count) → 0 < count → 0 < length xs
some_drawn [] count h s =
    let yes : nat_lt 0 count ≡ true = lt-ltb 0 count s in
    let e : 0 ≡ 1 = h 0 ∙ ap (λ (v : Bool). cond v 1 0) yes in
    absurd (omega (arith, e))
some_drawn (x ∷ xs) count h s = omega arith

-- ---- less is left where a lane has an event

abbrev IsFetched : Event → Type 0
IsFetched e = (n : ℕ) × (p : ℕ) × (k : ℕ) × (e ≡ Fetched n p k)

abbrev IsExpired : Event → Type 0
IsExpired e = (n : ℕ) × (p : ℕ) × (k : ℕ) × (e ≡ Expired n p k)

own : (n p k : ℕ) → cond {A = ℕ} (expires p k (Expired n p k)) 1 0 ≡ 1
own n p k = ap {B = ℕ} (λ (v : Bool). cond v 1 0) (and_from (p == p) (k == k) (eq-eqb p p refl) (eq-eqb k k refl))

fetched_less : (g : Setup) (es : List Event) (e : Event) (l k : Led) → IsFetched e → IsAllowed es e
    → unfinished_terms k < 2 ^ 64 → measure g (es ++ e ∷ []) k < measure g es l
fetched_less g es e l k f a small =
    let m : IsAllowed es (Fetched f.0 f.1 f.2) = subst (IsAllowed es) f.3 a in
    let less = measure_fetched g es f.0 f.1 f.2 l k m.1 small in
    subst (λ (x : Event). measure g (es ++ x ∷ []) k < measure g es l) (sym f.3) less

-- no block has more expired answers than tries
abbrev IsTriedOf : Setup → List Event → Type 0
IsTriedOf g es = (p k : ℕ) → count_by (expires p k) es ≤ g.tries

expired_less : (g : Setup) (es rest : List Event) (e : Event) (l k : Led) → IsExpired e → IsAllowed es e
    → IsTriedOf g (es ++ (e ∷ rest)) → unfinished_terms k < 2 ^ 64 → measure g (es ++ e ∷ []) k < measure g es l
expired_less g es rest e l k f a few small =
    let m : IsAllowed es (Expired f.0 f.1 f.2) = subst (IsAllowed es) f.3 a in
    let x : Event = Expired f.0 f.1 f.2 in
    let h : count_by (expires f.1 f.2) (es ++ (x ∷ rest)) ≤ g.tries =
    subst (λ (y : Event). count_by (expires f.1 f.2) (es ++ (y ∷ rest)) ≤ g.tries) f.3 (few f.1 f.2) in
    let c = count-append (expires f.1 f.2) es (x ∷ rest) in
    let d = count_by-cons (expires f.1 f.2) x rest in
    let o : cond (expires f.1 f.2 x) 1 0 ≡ 1 = own f.0 f.1 f.2 in
    let less = measure_expired g es f.0 f.1 f.2 l k m.1 (omega (arith, h, c, d, o)) small in
    subst (λ (y : Event). measure g (es ++ y ∷ []) k < measure g es l) (sym f.3) less

-- a first event after which less is left, and events that plan and admit nothing
first_less : (g : Setup) (es rest : List Event) (e : Event) (l k : Led) → measure g (es ++ e ∷ []) k < measure g es l
    → Each PlansNone rest → measure g (es ++ (e ∷ rest)) k < measure g es l
first_less g es rest e l k first n =
    let last = each_rest g (es ++ e ∷ []) rest k k n (omega arith) in
    let whole =
    subst (λ (y : List Event). measure g y k ≤ measure g (es ++ e ∷ []) k) (append_assoc es (e ∷ []) rest) last in
    omega (arith, first, whole)

-- fetched ones, expired ones, and others
either_less : (g : Setup) (es ws : List Event) (l k : Led) (served late : List Event) → Each IsFetched served
    → Each IsExpired late → AllowedAfter es served → AllowedAfter (es ++ served) late
    → 0 < length served + length late → IsTriedOf g (es ++ ((served ++ late) ++ ws))
    → Each PlansNone ((served ++ late) ++ ws) → unfinished_terms k < 2 ^ 64
    → measure g (es ++ ((served ++ late) ++ ws)) k < measure g es l
either_less g es ws l k [] [] f x a b s few n small = absurd (omega (arith, s))
either_less g es ws l k [] (e ∷ late) f x a b s few n small =
    let may : IsAllowed es e = subst (λ (y : List Event). IsAllowed y e) (append-nil es) b.0 in
    first_less g es (late ++ ws) e l k (expired_less g es (late ++ ws) e l k x.0 may few small) n.1
either_less g es ws l k (e ∷ served) late f x a b s few n small =
    first_less g es ((served ++ late) ++ ws) e l k (fetched_less g es e l k f.0 a.0 small) n.1

lanes_less : (g : Setup) (es ws : List Event) (ls : List (List LaneStep)) (l k : Led)
    → AllowedAfter es (fetched_events ls) → AllowedAfter (es ++ fetched_events ls) (expired_events ls)
    → 0 < length (fetched_events ls) + length (expired_events ls) → IsTriedOf g (es ++ (lanes_events ls ++ ws))
    → Each PlansNone (lanes_events ls ++ ws) → unfinished_terms k < 2 ^ 64
    → measure g (es ++ (lanes_events ls ++ ws)) k < measure g es l
lanes_less g es ws ls l k a b some few none small =
    let served = lanes_each IsFetched fetched_on (served_each IsFetched (λ n p k. (n, p, k, refl))) 0 ls in
    let late = lanes_each IsExpired expired_on (late_each IsExpired (λ n p k. (n, p, k, refl))) 0 ls in
    either_less g es ws l k (fetched_events ls) (expired_events ls) served late a b some few none small

-- ---- a round

first_each : (P : Task → Type 0) (n : ℕ) (t : Task) (us : List Task) → 0 < n → Each P (take n (t ∷ us)) → P t
first_each P zero t us h a = absurd (omega (arith, h))
first_each P (suc n) t us h a = a.0

some_listed : (cs : List BlockAt) (c : BlockAt) → lists cs c ≡ true → 0 < length cs
some_listed [] c h = absurd (false≢true h)
some_listed (d ∷ cs) c h = omega arith

as_many : (ls : List LedPlan) (n : ℕ) (cs : List BlockAt) (fs : List Fetch) → AreFetches ls n cs fs
    → length fs ≡ length cs
as_many ls n [] [] h = refl
as_many ls n [] (f ∷ fs) h = absurd h
as_many ls n (c ∷ cs) [] h = absurd h
as_many ls n (c ∷ cs) (f ∷ fs) h = ap suc (as_many ls (n + 1) cs fs h.1)

-- where the next term has bytes and its block isn't kept, a block was to be fetched
some_places : (es : List Event) (fin : ℕ) (cs : List BlockAt) (t : Task) (us : List Task) → IsFetchList es fin cs
    → drop fin (planned es) ≡ t ∷ us → fin < count_by is_admit es → has_bytes t ≡ true
    → is_kept es t.plan t.term.block ≡ false → 0 < length cs
some_places es fin cs t us list next open_still some none =
    let n = count_by is_admit es - fin in
    let whole : Each (IsKeptOrListed es cs) (take n (t ∷ us)) =
    subst (λ (ts : List Task). Each (IsKeptOrListed es cs) (take n ts)) next list.whole in
    let first : IsKeptOrListed es cs t =
    first_each (IsKeptOrListed es cs) n t us (omega (arith, open_still)) whole in
    ⊎_elim (λ (k : is_kept es t.plan t.term.block ≡ true). absurd (false≢true (sym none ∙ k)))
    (λ (k : lists cs (place_of t) ≡ true). some_listed cs (place_of t) k) (first some)

-- a round of a prepared run whose outcome was taken in
module _ {S : Type 0} (told : S → SinkTold) (g : Setup) (b : RunTold) (m : Moment) (l k : Led) (cs : List BlockAt)
    (lengths : List ℕ) (a z : RoundTold S) (j : Joined) (tries : ℕ) (fs : List Event) (o : Outcome)
    (p : IsPrepared told g b m l cs lengths a.writer) (f : FetchedBeside told l cs a z j)
    (h : TookOutcome tries lengths j m.events fs (fetched_led cs l) k o) (few : IsTriedOf g fs) where
  abbrev es : List Event
  es = m.events

  abbrev ls : List (List LaneStep)
  ls = lanes_of j.ends.items

  abbrev all : List Event
  all = lanes_events ls ++ wrote_of lengths

  abbrev w : IsWindow g b es p.going.slack l lengths p.pieces
  w = p.window

  none_bad : ((i : ℕ) × (j.wrote ≡ Ok i)) × NoneEndedBadly (map ended j.ends.items)
  none_bad = no_error j.wrote (map ended j.ends.items) h.none

  events_are : fs ≡ es ++ all
  events_are =
      h.recorded
      ∙ ap (λ (r : Result ℕ FileReconstructionError). es ++ (lanes_events ls ++ window_events r lengths)) none_bad.0.1

  -- the leader after it
  abbrev after : Led
  after = advanced (length lengths) (record (fetched_led cs l) { plans = plans_after ls l.plans })

  counted : IsCounted es l
  counted = p.going.led.counted

  long : length lengths ≡ length w.tasks
  long = ap (λ (ns : List ℕ). length ns) w.lengths_are ∙ length-map w.tasks size

  stays : unfinished_terms after ≤ unfinished_terms l
  stays =
      let x = counted.finished_within in
      let y = counted.admitted_within in
      let c = counted.planned_fits in
      omega (arith, x, y, c)

  small : unfinished_terms after < 2 ^ 64
  small = let c = counted.planned_fits in omega (arith, c)

  -- a block was to be fetched
  by_places : 0 < length cs → measure g (es ++ all) after < measure g es l
  by_places places =
      let whole = f.drew.whole none_bad.1 in
      let many = as_many l.plans l.fetches cs f.asked f.made in
      let asked = length-map f.asked ask_of in
      let count = whole.0 in
      let apart = f.drew.drew.apart in
      let positive : 0 < f.drew.drew.count = omega (arith, count, asked, many, places) in
      let drawn = some_drawn (concat f.drew.drew.drawn) f.drew.drew.count apart positive in
      let steps = lanes_count 0 f.drew.drew.drawn (map ended j.ends.items) whole.1 in
      let asks = are_led_asks g b m l cs l.fetches f.asked p.going p.listed f.made in
      let runs = p.going.led.running in
      let may =
      round_allowed es (map ask_of f.asked) a.clients z.clients ls f.drew.drew runs asks.missing asks.once in
      let tried : IsTriedOf g (es ++ all) = subst (λ (x : List Event). IsTriedOf g x) events_are few in
      let rest = join_rest ls lengths in
      lanes_less g es (wrote_of lengths) ls l after may.0 may.1 (omega (arith, drawn, steps)) tried rest small

  -- the window has no term
  by_rest : (us : List Task) → w.rest ≡ us → w.tasks ≡ [] → l.finished < l.admitted
      → measure g (es ++ all) after < measure g es l
  by_rest [] e t open_still =
      let none : drop l.finished (planned es) ≡ [] = w.next ∙ ap (λ (x : List Task). x ++ w.rest) t ∙ e in
      let c = ap (λ (x : List Task). length x) none in
      let d = length-drop l.finished (planned es) in
      let are = counted.planned_are in
      let y = counted.admitted_within in
      absurd (omega (arith, c, d, are, y, open_still))
  by_rest (u ∷ us) e t open_still =
      let none = ap (λ (x : List Task). length x) t in
      let are = counted.admitted_are in
      let next : drop l.finished (planned es) ≡ u ∷ us = w.next ∙ ap (λ (x : List Task). x ++ w.rest) t ∙ e in
      let stop = w.stops u (omega (arith, none, open_still)) (ap (λ (x : List Task). slice_get x 0) e) in
      by_places
      (some_places es l.finished cs u us p.listed next (omega (arith, are, open_still)) stop.0 stop.1)

  -- or it has one
  by_window : (ts : List Task) → w.tasks ≡ ts → l.finished < l.admitted
      → measure g (es ++ all) after < measure g es l
  by_window [] e open_still = by_rest w.rest refl e open_still
  by_window (t ∷ ts) e open_still =
      let many = ap (λ (x : List Task). length x) e in
      let within = w.within in
      let y = counted.admitted_within in
      let c = counted.planned_fits in
      let fewer : unfinished_terms after < unfinished_terms l = omega (arith, long, many, within, y, c) in
      let first = measure_finished g es l after fewer in
      let more = each_rest g es all after after (join_rest ls lengths) (omega arith) in
      omega (arith, first, more)

  -- no more is left, and less where an admitted term wasn't written
  pub round_less : LeavesLess g es fs l k
  round_less =
      let less : LeavesLess g es (es ++ all) l after =
      record { stays = each_rest g es all l after (join_rest ls lengths) stays; falls = by_window w.tasks refl } in
      subst (λ (x : Led). LeavesLess g es fs l x) (sym h.kept.led)
      (subst (λ (x : List Event). LeavesLess g es x l after) (sym events_are) less)
