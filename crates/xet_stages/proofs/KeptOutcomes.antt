-- What a join came to, kept lane by lane.
use Rattle.std.proofs.Common.{◌≡◌, ℕ, true, List, [], ◌∷◌, ◌++◌, length, refl, sym, subst, ◌∙◌, ap, inl, inr, ⊎_elim, Ok, Err}
use Rattle.std.specs.Prelude.{IfErr, IfOk, None, Result, Some, map}
use Rattle.std.specs.List.{flat_map}
use Rattle.std.proofs.lemmas.Grind.{flat_map-append}
use Rattle.xet_error.specs.declared.error.FileReconstructionError.{FileReconstructionError}
use Rattle.xet_error.specs.declared.error.FileReconstructionError.TheVariants as error
use Rattle.xet_events.specs.declared.event.Event.{Event}
use Rattle.xet_ties.specs.declared.lane_step.LaneStep.{LaneStep}
use Rattle.xet_ties.specs.Recordings.{Place, Recorded, places_in, places_of}
use Rattle.xet_ties.specs.Rounds.{got_in}
use Rattle.xet_lane.specs.declared.joined.Joined.{Joined}
use Rattle.xet_lane.specs.declared.joined.LaneEnd.{LaneEnd}
use Rattle.xet_leader.specs.Advances.{advanced}
use Rattle.xet_leader.specs.declared.keeping.RoundPlaces.{RoundPlaces}
use Rattle.xet_stages.specs.declared.outcomes.Outcome.{Outcome}
use Rattle.xet_leader.specs.declared.missing_blocks.BlockAt.{BlockAt}
use Rattle.xet_leader.specs.Expiries.{CountFails, CountedLate, counted, spends, stale_after}
use Rattle.xet_leader.specs.Keeping.{Given, KeptRound, all_steps, given_in, kept, places_at}
use Rattle.xet_leader.specs.Led.{Led}
use Rattle.xet_stages.specs.Outcomes.{KeepFails, KeptOutcome, OutcomeFails, TookOutcome, is_spent, join_error, join_events, plans_after, plans_kept}
use Rattle.xet_leader.specs.Places.{place_at}
use Rattle.xet_stages.specs.RoundRecords.{lanes_of}

-- what the steps of all lanes have, lane by lane
all_flat : {A : Type 0} (f : LaneStep → List A) (es : List LaneEnd)
    → flat_map f (all_steps es) ≡ flat_map (λ ss. flat_map f ss) (lanes_of es)
all_flat f [] = refl
all_flat {A = A} f (e ∷ es) = flat_map-append f e.steps.items (all_steps es)
    ∙ ap (λ (l : List A). flat_map f e.steps.items ++ l) (all_flat f es)

-- the leader that keeps the served blocks
kept_is : (es : List LaneEnd) (l m : Led) (t : RoundPlaces) → KeptRound (all_steps es) l m t
    → m ≡ record l { plans = plans_kept (lanes_of es) l.plans }
kept_is es l m t h = h.led ∙ ap (λ (gs : List Given). record l { plans = kept gs l.plans }) (all_flat given_in es)

late_are : (es : List LaneEnd) (l m : Led) (t : RoundPlaces) → KeptRound (all_steps es) l m t
    → map place_at t.late.items ≡ flat_map places_of (lanes_of es)
late_are es l m t h = h.late ∙ all_flat places_in es

spent_is : (tries : ℕ) (es : List LaneEnd) (l m : Led) (t : RoundPlaces) → KeptRound (all_steps es) l m t
    → spends tries (map place_at t.late.items) m.plans ≡ is_spent tries es l.plans
spent_is tries es l m t h = ap (λ (cs : List Place). spends tries cs m.plans) (late_are es l m t h)
    ∙ ap (λ (x : Led). spends tries (flat_map places_of (lanes_of es)) x.plans) (kept_is es l m t h)

-- it counts the expired ones, and terms go
pub kept_outcome : (tries count : ℕ) (lengths : List ℕ) (es : List LaneEnd) (l m k n : Led) (t : RoundPlaces)
    (late : List BlockAt) (o : Outcome) → KeptRound (all_steps es) l m t → late ≡ t.late.items
    → CountedLate tries (map place_at late) m k o.stale.items → n ≡ advanced count k → count ≡ length lengths
    → places_at o.served.items ≡ places_at t.served.items → o.lengths ≡ lengths → KeptOutcome tries lengths es l n o
kept_outcome tries count lengths es l m k n t late o h listed c to many served is =
    let same = kept_is es l m t h in
    let cs = flat_map places_of (lanes_of es) in
    let late_is : map place_at late ≡ cs = ap (λ (bs : List BlockAt). map place_at bs) listed ∙ late_are es l m t h in
    let counted_is : k ≡ record l { plans = plans_after (lanes_of es) l.plans } =
    c.led ∙ ap (λ (ds : List Place). record m { plans = counted ds m.plans }) late_is
    ∙ ap (λ (x : Led). record x { plans = counted cs x.plans }) same in
    record {
      left = sym (ap (λ (bs : List BlockAt). spends tries (map place_at bs) m.plans) listed
          ∙ spent_is tries es l m t h) ∙ c.left;
      led = to ∙ ap (λ (i : ℕ). advanced i k) many ∙ ap (advanced (length lengths)) counted_is;
      served_are = served ∙ h.served ∙ all_flat got_in es;
      stale_are = c.stale_is ∙ ap (λ (ds : List Place). stale_after ds []) late_is;
      lengths_are = is;
    }

-- tries are used up, or memory was wanting
pub keep_fails : (tries : ℕ) (es : List LaneEnd) (l m : Led) (t : RoundPlaces) (late : List BlockAt)
    (e : FileReconstructionError) → KeptRound (all_steps es) l m t → late ≡ t.late.items
    → CountFails tries (map place_at late) m.plans e → KeepFails tries es l e
keep_fails tries es l m t late e h listed c =
    ⊎_elim (λ (x : e ≡ error.OutOfMemory). inl x)
    (λ (x : (e ≡ error.UrlExpired) × (spends tries (map place_at late) m.plans ≡ true)). inr (
      x.0,
      sym (ap (λ (bs : List BlockAt). spends tries (map place_at bs) m.plans) listed
          ∙ spent_is tries es l m t h) ∙ x.1,
    )) c

-- ---- with what is recorded

-- all of it is
all_recorded : (lengths ns : List ℕ) (j : Joined) (es fs : List Event) → ns ≡ lengths
    → Recorded {A = Unit {0}} es fs (join_events j ns) (Ok tt) → fs ≡ es ++ join_events j lengths
all_recorded lengths ns j es fs same r = r.all ∙ ap (λ (ks : List ℕ). es ++ join_events j ks) same

-- memory was wanting for that
pub outcome_short : (tries : ℕ) (lengths ns : List ℕ) (j : Joined) (es fs : List Event) (l : Led)
    (e : FileReconstructionError) → ns ≡ lengths → Recorded {A = Unit {0}} es fs (join_events j ns) (Err e)
    → OutcomeFails tries lengths j es fs l e
outcome_short tries lengths ns j es fs l e same r =
    inl (subst (λ (ks : List ℕ). Recorded {A = Unit {0}} es fs (join_events j ks) (Err e)) same r)

-- the join has an error
pub outcome_stops : (tries : ℕ) (lengths ns : List ℕ) (j : Joined) (es fs : List Event) (l : Led)
    (e : FileReconstructionError) → ns ≡ lengths → Recorded {A = Unit {0}} es fs (join_events j ns) (Ok tt)
    → Some e ≡ join_error j → OutcomeFails tries lengths j es fs l e
outcome_stops tries lengths ns j es fs l e same r is =
    inr (record { recorded = all_recorded lengths ns j es fs same r; stops = inl (sym is) })

-- it has none, and is kept
pub outcome_took : (tries : ℕ) (lengths ns : List ℕ) (j : Joined) (es fs : List Event) (l k : Led)
    (answer : Result Outcome FileReconstructionError) → ns ≡ lengths
    → Recorded {A = Unit {0}} es fs (join_events j ns) (Ok tt) → None ≡ join_error j
    → IfOk answer (KeptOutcome tries lengths j.ends.items l k) → IfOk answer (TookOutcome tries lengths j es fs l k)
outcome_took tries lengths ns j es fs l k (Ok o) same r is kept =
    record { recorded = all_recorded lengths ns j es fs same r; none = sym is; kept = kept }
outcome_took tries lengths ns j es fs l k (Err e) same r is kept = tt

-- or can't be
pub outcome_unkept : (tries : ℕ) (lengths ns : List ℕ) (j : Joined) (es fs : List Event) (l : Led)
    (answer : Result Outcome FileReconstructionError) → ns ≡ lengths
    → Recorded {A = Unit {0}} es fs (join_events j ns) (Ok tt) → None ≡ join_error j
    → IfErr answer (KeepFails tries j.ends.items l) → IfErr answer (OutcomeFails tries lengths j es fs l)
outcome_unkept tries lengths ns j es fs l (Ok o) same r is fails = tt
outcome_unkept tries lengths ns j es fs l (Err e) same r is fails =
    inr (record { recorded = all_recorded lengths ns j es fs same r; stops = inr (sym is, fails) })
