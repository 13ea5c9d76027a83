-- A run after a join: it goes on, or is to stop.
use Rattle.std.proofs.Common.{◌≡◌, ℕ, ◌+◌, ◌-◌, ◌<◌, ◌≤◌, List, [], ◌∷◌, ◌++◌, length, take, drop, refl, sym, subst, ◌∙◌, ap, arith, append_assoc, ⊎_elim, None, Err}
use Rattle.std.specs.Prelude.{All, count_by, false, map, true}
use Rattle.std.specs.List.{flat_map}
use Rattle.std.proofs.Math.Seq.{take-append-add}
use Rattle.std.proofs.lemmas.Bool.{cases_lt}
use Rattle.std.proofs.lemmas.Grind.{flat_map-append}
use Rattle.std.proofs.lemmas.List.{append-nil, take-append-le}
use Rattle.xet_base.specs.Store.{Store}
use Rattle.xet_outside.specs.Told.{ClientTold}
use Rattle.xet_error.specs.declared.error.FileReconstructionError.{FileReconstructionError}
use Rattle.xet_error.specs.declared.error.FileReconstructionError.TheVariants as error
use Rattle.xet_events.specs.declared.event.Event.{Event}
use Rattle.xet_events.specs.Events.{Task, expires, planned, size, tasks_in}
use Rattle.xet_ties.specs.declared.lane_step.LaneStep.{LaneStep}
use Rattle.xet_ties.specs.declared.lane_step.LaneStep.TheVariants as step
use Rattle.xet_ties.specs.InCall.{EachGrew}
use Rattle.xet_ties.specs.Lanes.{Ask, HidesNone}
use Rattle.xet_ties.specs.Saids.{InStep}
use Rattle.xet_ties.specs.Setup.{CacheTells, IsOver, RunTold, Setup}
use Rattle.xet_ties.specs.Moves.{no_hidden, no_late}
use Rattle.xet_ties.specs.PartCalls.{total}
use Rattle.xet_ties.specs.Recordings.{Recorded, expired_on, fetched_on, lane_events, places_of, wrote_of}
use Rattle.xet_ties.specs.Rounds.{blocks_at, calm_after, got_of}
use Rattle.xet_ties.specs.Ties.{NoneLate, Slack, Ties, all_of, has_one}
use Rattle.xet_ties.proofs.CallerLemmas.{grew_none, have_expired, none_hidden, none_late, short_leaves, steady_leaves, tie_written, written_short}
use Rattle.xet_leader.specs.Expiries.{spends, stale_after}
use Rattle.xet_leader.specs.Led.{IsLed, Led}
use Rattle.xet_leader.specs.Advances.{advanced}
use Rattle.xet_stages.specs.RoundRecords.{expired_events, fetched_events, lanes_events}
use Rattle.xet_turns.specs.Rounds.{IsSpent, RoundLeft}
use Rattle.xet_stages.specs.Outcomes.{plans_after, plans_kept}
use Rattle.xet_leader.specs.Steady.{IsFailing, IsGoing, Loose}
use Rattle.xet_turns.proofs.LateLed.{spent_more}
use Rattle.xet_leader.proofs.CallerLemmas.{led_more, tells_more_heard, calm_halted}
use Rattle.xet_leader.proofs.CallerLemmas.{led_wrote}

-- ---- the events of lanes plan nothing

served_plans : (lane : ℕ) (ss : List LaneStep) → flat_map tasks_in (fetched_on lane ss) ≡ []
served_plans lane [] = refl
served_plans lane (step.Served p k d ∷ ss) = served_plans lane ss
served_plans lane (step.Expired p k ∷ ss) = served_plans lane ss
served_plans lane (step.Failed e ∷ ss) = served_plans lane ss

late_plans : (lane : ℕ) (ss : List LaneStep) → flat_map tasks_in (expired_on lane ss) ≡ []
late_plans lane [] = refl
late_plans lane (step.Served p k d ∷ ss) = late_plans lane ss
late_plans lane (step.Expired p k ∷ ss) = late_plans lane ss
late_plans lane (step.Failed e ∷ ss) = late_plans lane ss

lanes_plan : (on : ℕ → List LaneStep → List Event) → ((n : ℕ) (ss : List LaneStep) → flat_map tasks_in (on n ss) ≡ [])
    → (lane : ℕ) (ls : List (List LaneStep)) → flat_map tasks_in (lane_events on lane ls) ≡ []
lanes_plan on none lane [] = refl
lanes_plan on none lane (ss ∷ ls) =
    flat_map-append tasks_in (on lane ss) (lane_events on (lane + 1) ls)
    ∙ ap (λ (l : List Task). l ++ flat_map tasks_in (lane_events on (lane + 1) ls)) (none lane ss)
    ∙ lanes_plan on none (lane + 1) ls

pub round_planned : (es : List Event) (ls : List (List LaneStep)) → planned (es ++ lanes_events ls) ≡ planned es
round_planned es ls =
    let none : flat_map tasks_in (lanes_events ls) ≡ [] =
    flat_map-append tasks_in (fetched_events ls) (expired_events ls)
    ∙ ap (λ (l : List Task). l ++ flat_map tasks_in (expired_events ls)) (lanes_plan fetched_on served_plans 0 ls)
    ∙ lanes_plan expired_on late_plans 0 ls in
    flat_map-append tasks_in es (lanes_events ls) ∙ ap (λ (l : List Task). planned es ++ l) none
    ∙ append-nil (planned es)

-- ---- it goes on

-- what the round leaves loose
abbrev pub loose_after : List Event → List (List LaneStep) → ℕ → Loose
loose_after es ls due = record {
  pending = [];
  due = due + count_by has_one (blocks_at es (flat_map got_of ls));
  stale = stale_after (flat_map places_of ls) [];
  polls = 0;
}

-- no step may hide a served block, each expired block has tries left, and the bytes that were taken are those of the
-- next terms, which are recorded after the lanes' answers
pub round_goes : (g : Setup) (b at : RunTold) (es : List Event) (sl : Slack) (ns : List ClientTold) (fs : List Ask)
    (ls : List (List LaneStep)) (l : Led) (ts rest : List Task) → RoundLeft g b at es sl ns fs ls l → All HidesNone ls
    → spends g.tries (flat_map places_of ls) (plans_kept ls l.plans) ≡ false
    → drop l.finished (planned es) ≡ ts ++ rest → l.finished + length ts ≤ l.admitted
    → sl.ahead ≡ total (map size ts)
    → sl.lost ≡ [] → InStep sl.heard → calm_after sl.calm ls ≡ length b.clients
    → at.signal.yes ≡ b.signal.yes → at.sink.faults ≡ b.sink.faults
    → ((s : Store) → IsOver s b.clients → CacheTells s b.cache → CacheTells s at.cache)
    → IsGoing g b (record {
      told = record at { clients = ns };
      events = es ++ (lanes_events ls ++ wrote_of (map size ts));
    }) (loose_after es ls sl.due)
    (advanced (length ts) (record l { plans = plans_after ls l.plans }))
round_goes g b at es sl ns fs ls l ts rest r none left next within ahead lost step told_calm calm unfailed tells =
    let n : RunTold = record at { clients = ns } in
    let mid = es ++ lanes_events ls in
    let sizes = map size ts in
    let k : Led = record l { plans = plans_after ls l.plans } in
    let a = r.after in
    let whole : r.slack.ahead ≡ total sizes + 0 = (let x = a.ahead in omega (arith, x, ahead)) in
    let to : Slack = record r.slack { ahead = 0 } in
    let tied = tie_written g b n mid r.slack sizes 0 whole r.ties in
    let led = led_wrote g b mid r.slack (stale_after (flat_map places_of ls) []) k ts rest
    (ap (λ (xs : List Task). drop l.finished xs) (round_planned es ls) ∙ next) within (r.led left) in
    let moved = same_told g b (mid ++ wrote_of sizes) r.slack to (stale_after (flat_map places_of ls) [])
    (advanced (length ts) k) refl refl led in
    record {
      slack = to;
      ties = subst (λ (x : List Event). Ties g b n x None to)
          (append_assoc es (lanes_events ls) (wrote_of sizes)) tied;
      settled = record {
        hidden = a.none none;
        late = a.late;
        lost = a.lost ∙ lost;
        ahead = refl;
        spare = a.spare;
        pending = a.pending;
        due = a.due;
        step = a.step step;
        calm = a.calm ∙ told_calm;
      };
      led = subst (λ (x : List Event). IsLed g b x to (stale_after (flat_map places_of ls) [])
          (advanced (length ts) k)) (append_assoc es (lanes_events ls) (wrote_of sizes)) moved;
      calm = calm;
      unfailed = unfailed;
      cache_tells = tells;
    }
  where
    same_told : (g : Setup) (b : RunTold) (es : List Event) (sl to : Slack) (stale : List ℕ) (l : Led)
        → to.heard ≡ sl.heard → to.looks ≡ sl.looks → IsLed g b es sl stale l → IsLed g b es to stale l
    same_told g b es sl to stale l h k led = led_more g b es sl to stale l
        (tells_more_heard sl to (subst (EachGrew sl.heard) (sym h) (grew_none sl.heard)) k) led

-- ---- it is to stop

-- memory was wanting, wherever its ties stand
pub memory_fails : (g : Setup) (b at : RunTold) (es : List Event) (sl : Slack) → Ties g b at es None sl
    → ((s : Store) → IsOver s b.clients → CacheTells s b.cache → CacheTells s at.cache)
    → IsFailing g b (record { told = at; events = es }) error.OutOfMemory
memory_fails g b at es sl t tells = record {
  slack = sl;
  ties = t;
  left = short_leaves b.clients sl;
  cause = tt;
  unfailed = tt;
  spent = λ h. absurd (cc);
  halted = λ yes. tt;
  under = λ u. absurd u;
  cache_tells = tells;
}

-- a block has no tries left, and all else is settled
pub spent_fails : (g : Setup) (b at : RunTold) (es : List Event) (sl : Slack) → IsSpent g.tries es
    → sl.hidden ≡ no_hidden b.clients → sl.late ≡ no_late b.clients → sl.ahead ≡ 0
    → sl.calm ≡ length b.clients → Ties g b at es None sl
    → at.sink.faults ≡ b.sink.faults → at.signal.yes ≡ b.signal.yes
    → ((s : Store) → IsOver s b.clients → CacheTells s b.cache → CacheTells s at.cache)
    → IsFailing g b (record { told = at; events = es }) error.UrlExpired
spent_fails g b at es sl h hidden late ahead calm t unfailed quiet tells =
    let most = t.tried.at_most h.plan h.block in
    let many = h.many in
    let same : count_by (expires h.plan h.block) es ≡ g.tries = omega (arith, most, many) in
    record {
      slack = sl;
      ties = t;
      left = steady_leaves b.clients error.UrlExpired sl (ap all_of hidden ∙ none_hidden b.clients)
          (subst NoneLate (sym late) (none_late b.clients)) ahead (λ v. calm);
      cause = have_expired g b at es None sl h.plan h.block same t;
      unfailed = unfailed;
      spent = λ e. (h.plan, h.block, same);
      halted = calm_halted b.signal.yes at.signal.yes error.UrlExpired quiet;
      under = λ u. absurd u;
      cache_tells = tells;
    }

-- the tries of a block of the round are used up, and the window is recorded besides
pub round_spent : (g : Setup) (b at : RunTold) (es : List Event) (sl : Slack) (ns : List ClientTold) (fs : List Ask)
    (ls : List (List LaneStep)) (l : Led) (lengths : List ℕ) → RoundLeft g b at es sl ns fs ls l → All HidesNone ls
    → spends g.tries (flat_map places_of ls) (plans_kept ls l.plans) ≡ true → sl.ahead ≡ total lengths
    → calm_after sl.calm ls ≡ length b.clients
    → at.sink.faults ≡ b.sink.faults → at.signal.yes ≡ b.signal.yes
    → ((s : Store) → IsOver s b.clients → CacheTells s b.cache → CacheTells s at.cache)
    → IsFailing g b (record {
      told = record at { clients = ns };
      events = es ++ (lanes_events ls ++ wrote_of lengths);
    }) error.UrlExpired
round_spent g b at es sl ns fs ls l lengths r none some ahead calm unfailed quiet tells =
    let n : RunTold = record at { clients = ns } in
    let mid = es ++ lanes_events ls in
    let a = r.after in
    let whole : r.slack.ahead ≡ total lengths + 0 = (let x = a.ahead in omega (arith, x, ahead)) in
    let tied = tie_written g b n mid r.slack lengths 0 whole r.ties in
    let spent = spent_more g.tries mid (wrote_of lengths) (r.spent some) in
    subst (λ (x : List Event). IsFailing g b (record { told = n; events = x }) error.UrlExpired)
    (append_assoc es (lanes_events ls) (wrote_of lengths))
    (spent_fails g b n (mid ++ wrote_of lengths) (record r.slack { ahead = 0 }) spent
    (a.none none) a.late refl (a.calm ∙ calm) tied unfailed quiet tells)

-- memory was wanting while all was recorded, bytes of the window too
pub round_memory : (g : Setup) (b at : RunTold) (es new : List Event) (sl : Slack) (ns : List ClientTold)
    (fs : List Ask) (ls : List (List LaneStep)) (l : Led) (lengths : List ℕ) (e : FileReconstructionError)
    → RoundLeft g b at es sl ns fs ls l → Recorded {A = Unit {0}} es new (lanes_events ls ++ wrote_of lengths) (Err e)
    → total lengths ≤ sl.ahead → ((s : Store) → IsOver s b.clients → CacheTells s b.cache → CacheTells s at.cache)
    → IsFailing g b (record { told = record at { clients = ns }; events = new }) e
round_memory g b at es new sl ns fs ls l lengths e r short some tells =
    let n : RunTold = record at { clients = ns } in
    let A = lanes_events ls in
    let W = wrote_of lengths in
    let k = short.some.0 in
    let at_new : (to : Slack) → Ties g b n (es ++ take k (A ++ W)) None to
    → IsFailing g b (record { told = n; events = new }) e = λ to t.
    subst (λ (x : FileReconstructionError). IsFailing g b (record { told = n; events = new }) x) (sym short.memory)
    (subst (λ (x : List Event). IsFailing g b (record { told = n; events = x }) error.OutOfMemory) (sym short.some.1)
    (memory_fails g b n (es ++ take k (A ++ W)) to t tells)) in
    ⊎_elim
    (λ (over : length A < k).
    let a = r.after.ahead in
    let w = written_short g b n (es ++ A) r.slack lengths (k - length A) (omega (arith, a, some)) r.ties in
    let names : take k (A ++ W) ≡ A ++ take (k - length A) W =
    ap (λ (i : ℕ). take i (A ++ W)) (as_sum k (length A) over) ∙ take-append-add A W (k - length A) in
    let events : (es ++ A) ++ take (k - length A) W ≡ es ++ take k (A ++ W) =
    append_assoc es A (take (k - length A) W) ∙ ap (λ (x : List Event). es ++ x) (sym names) in
    at_new (record r.slack { ahead = w.0 }) (subst
    (λ (x : List Event). Ties g b n x None (record r.slack { ahead = w.0 })) events w.1))
    (λ (within : k ≤ length A).
    let s = r.short k in
    at_new s.0 (subst (λ (x : List Event). Ties g b n (es ++ x) None s.0) (sym (take-append-le k A W within)) s.1))
    (cases_lt (length A) k)
  where
    as_sum : (n m : ℕ) → m < n → n ≡ m + (n - m)
    as_sum n m over = omega (arith, over)
