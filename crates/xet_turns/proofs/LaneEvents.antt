-- The events that a join records: they plan and admit nothing, and those of lanes write nothing.
use Rattle.std.proofs.Common.{◌≡◌, ℕ, ◌+◌, Bool, true, false, cond, List, [], ◌∷◌, ◌++◌, refl, sym, subst, ◌∙◌, ap, arith, append_assoc}
use Rattle.std.specs.Prelude.{None, Option, Some, count_by, map, nat_lt, option_to_list, slice_get}
use Rattle.std.specs.List.{flat_map, list_any}
use Rattle.std.proofs.lemmas.Bool.{or_left}
use Rattle.std.proofs.lemmas.List.{append-nil}
use Rattle.std.proofs.lemmas.List.Folds.{list_any-append}
use Rattle.xet_base.specs.Lists.{first_some}
use Rattle.xet_events.specs.declared.event.Event.{Event}
use Rattle.xet_events.specs.declared.event.Event.TheVariants.{Expired, Fetched, Wrote}
use Rattle.xet_events.specs.declared.event.PlannedBlock.{PlannedBlock}
use Rattle.xet_events.specs.Allowed.{IsRunning}
use Rattle.xet_events.specs.Events.{Task, is_admit, is_kept, keeps, planned, written}
use Rattle.xet_events.proofs.CallerLemmas.{planned-push, written-push}
use Rattle.xet_ties.specs.declared.lane_step.LaneStep.{LaneStep}
use Rattle.xet_ties.specs.declared.lane_step.LaneStep.TheVariants as step
use Rattle.xet_ties.specs.History.{block_at, blocks_in}
use Rattle.xet_ties.specs.Recordings.{Place, expired_on, fetched_on, lane_events, wrote_of}
use Rattle.xet_ties.specs.Rounds.{blocks_at}
use Rattle.xet_ties.specs.Windows.{AreKept}
use Rattle.xet_ties.proofs.CallerLemmas.{IsStill, count-same, running-push}
use Rattle.xet_leader.specs.FetchLists.{Each}
use Rattle.xet_stages.specs.RoundRecords.{expired_events, fetched_events, lanes_events}
use Rattle.xet_leader.proofs.CallerLemmas.{each_append}

-- ---- what holds of each of them

pub served_each : (P : Event → Type 0) → ((n p k : ℕ) → P (Fetched n p k)) → (lane : ℕ) (ss : List LaneStep)
    → Each P (fetched_on lane ss)
served_each P f lane [] = tt
served_each P f lane (step.Served p k d ∷ ss) = (f lane p k, served_each P f lane ss)
served_each P f lane (step.Expired p k ∷ ss) = served_each P f lane ss
served_each P f lane (step.Failed e ∷ ss) = served_each P f lane ss

pub late_each : (P : Event → Type 0) → ((n p k : ℕ) → P (Expired n p k)) → (lane : ℕ) (ss : List LaneStep)
    → Each P (expired_on lane ss)
late_each P f lane [] = tt
late_each P f lane (step.Served p k d ∷ ss) = late_each P f lane ss
late_each P f lane (step.Expired p k ∷ ss) = (f lane p k, late_each P f lane ss)
late_each P f lane (step.Failed e ∷ ss) = late_each P f lane ss

pub lanes_each : (P : Event → Type 0) (on : ℕ → List LaneStep → List Event)
    → ((n : ℕ) (ss : List LaneStep) → Each P (on n ss)) → (lane : ℕ) (ls : List (List LaneStep))
    → Each P (lane_events on lane ls)
lanes_each P on f lane [] = tt
lanes_each P on f lane (ss ∷ ls) = each_append P (on lane ss) (lane_events on (lane + 1) ls) (f lane ss)
    (lanes_each P on f (lane + 1) ls)

pub round_each : (P : Event → Type 0) → ((n p k : ℕ) → P (Fetched n p k)) → ((n p k : ℕ) → P (Expired n p k))
    → (ls : List (List LaneStep)) → Each P (lanes_events ls)
round_each P f e ls = each_append P (fetched_events ls) (expired_events ls)
    (lanes_each P fetched_on (served_each P f) 0 ls) (lanes_each P expired_on (late_each P e) 0 ls)

pub wrote_each : (P : Event → Type 0) → ((n : ℕ) → P (Wrote n)) → (ns : List ℕ) → Each P (wrote_of ns)
wrote_each P f [] = tt
wrote_each P f (n ∷ ns) = by (wrote_each P f ns) (nat_lt 0 n)
  where
    by : Each P (wrote_of ns) → (v : Bool) → Each P (cond v (Wrote n ∷ []) [] ++ wrote_of ns)
    by more true = (f n, more)
    by more false = more

-- ---- events that plan, admit and write nothing

pub round_still : (ls : List (List LaneStep)) → Each IsStill (lanes_events ls)
round_still ls = round_each IsStill (λ n p k. record { terms = refl; admits = refl; takes = refl; error = refl })
    (λ n p k. record { terms = refl; admits = refl; takes = refl; error = refl }) ls

pub record AsBefore (es fs : List Event) : Type 0 where
  pub planned_are : planned fs ≡ planned es
  pub admitted_are : count_by is_admit fs ≡ count_by is_admit es
  pub written_are : written fs ≡ written es
  pub runs : IsRunning es → IsRunning fs

one_still : (es : List Event) (e : Event) → IsStill e → AsBefore es (es ++ e ∷ [])
one_still es e s = record {
  planned_are = planned-push es e ∙ ap (λ (l : List Task). planned es ++ l) s.terms ∙ append-nil (planned es);
  admitted_are = count-same is_admit es e s.admits;
  written_are = (let p = written-push es e in let t = s.takes in omega (arith, p, t));
  runs = running-push es e s;
}

pub still_all : (es fs : List Event) → Each IsStill fs → AsBefore es (es ++ fs)
still_all es [] s = subst (AsBefore es) (sym (append-nil es))
    (record { planned_are = refl; admitted_are = refl; written_are = refl; runs = λ r. r })
still_all es (e ∷ fs) s =
    let a = one_still es e s.0 in
    let r = still_all (es ++ e ∷ []) fs s.1 in
    subst (AsBefore es) (append_assoc es (e ∷ []) fs)
    (record {
      planned_are = r.planned_are ∙ a.planned_are;
      admitted_are = r.admitted_are ∙ a.admitted_are;
      written_are = r.written_are ∙ a.written_are;
      runs = λ x. r.runs (a.runs x);
    })

-- ---- what is kept stays kept

pub kept_more : (es fs : List Event) (p k : ℕ) → is_kept es p k ≡ true → is_kept (es ++ fs) p k ≡ true
kept_more es fs p k h = list_any-append (keeps p k) es fs
    ∙ or_left (list_any (keeps p k) es) (list_any (keeps p k) fs) h

pub are_kept_more : (es fs : List Event) (ts : List Task) → AreKept es ts → AreKept (es ++ fs) ts
are_kept_more es fs [] a = tt
are_kept_more es fs (t ∷ ts) a = (λ h. kept_more es fs t.plan t.term.block (a.0 h), are_kept_more es fs ts a.1)

-- ---- planned blocks

-- an event that plans no blocks
abbrev pub PlansNone : Event → Type 0
PlansNone e = (p : ℕ) → blocks_in p e ≡ None

pub join_plans_none : (ls : List (List LaneStep)) (ns : List ℕ) → Each PlansNone (lanes_events ls ++ wrote_of ns)
join_plans_none ls ns = each_append PlansNone (lanes_events ls) (wrote_of ns)
    (round_each PlansNone (λ n p k q. refl) (λ n p k q. refl) ls) (wrote_each PlansNone (λ n q. refl) ns)

none_first : (p : ℕ) (fs : List Event) → Each PlansNone fs → first_some (map (blocks_in p) fs) ≡ None
none_first p [] h = refl
none_first p (e ∷ fs) h = ap (λ (o : Option (List PlannedBlock)). first_some (o ∷ map (blocks_in p) fs)) (h.0 p)
    ∙ none_first p fs h.1

first_same : (p : ℕ) (es fs : List Event) → Each PlansNone fs
    → first_some (map (blocks_in p) (es ++ fs)) ≡ first_some (map (blocks_in p) es)
first_same p [] fs h = none_first p fs h
first_same p (e ∷ es) fs h = by (first_same p es fs h) (blocks_in p e)
  where
    by : first_some (map (blocks_in p) (es ++ fs)) ≡ first_some (map (blocks_in p) es)
        → (o : Option (List PlannedBlock)) → first_some (o ∷ map (blocks_in p) (es ++ fs)) ≡ first_some
        (o ∷ map (blocks_in p) es)
    by r None = r
    by r (Some bs) = refl

block_same : (es fs : List Event) (p k : ℕ) → Each PlansNone fs → block_at (es ++ fs) p k ≡ block_at es p k
block_same es fs p k h = ap (λ (o : Option (List PlannedBlock)). flat_map (λ bs. option_to_list (slice_get bs k))
    (option_to_list o)) (first_same p es fs h)

-- the blocks of some places stay
pub blocks_same : (es fs : List Event) (cs : List Place) → Each PlansNone fs
    → blocks_at (es ++ fs) cs ≡ blocks_at es cs
blocks_same es fs [] h = refl
blocks_same es fs (c ∷ cs) h =
    ap (λ (l : List PlannedBlock). l ++ blocks_at (es ++ fs) cs) (block_same es fs c.0 c.1 h)
    ∙ ap (λ (l : List PlannedBlock). block_at es c.0 c.1 ++ l) (blocks_same es fs cs h)
