-- What taking in the outcome of a join does to a leader and its history.
use Rattle.std.specs.Prelude.{ℕ, ◌≡◌, ◌⊎◌, ◌++◌, Bool, true, false, List, [], length, map, Option, None, Some, Err}
use Rattle.std.specs.List.{flat_map}
use Rattle.xet_error.specs.declared.error.FileReconstructionError.{FileReconstructionError}
use Rattle.xet_error.specs.declared.error.FileReconstructionError.TheVariants as error
use Rattle.xet_events.specs.declared.event.Event.{Event}
use Rattle.xet_ties.specs.declared.lane_step.LaneStep.{LaneStep}
use Rattle.xet_ties.specs.Recordings.{Recorded, places_of}
use Rattle.xet_ties.specs.Rounds.{got_of}
use Rattle.xet_lane.specs.declared.joined.Joined.{Joined}
use Rattle.xet_lane.specs.declared.joined.LaneEnd.{LaneEnd}
use Rattle.xet_lane.specs.JoinErrors.{first_error}
use Rattle.xet_lane.specs.Ends.{ended}
use Rattle.xet_leader.specs.Advances.{advanced}
use Rattle.xet_leader.specs.declared.leader.LedPlan.{LedPlan}
use Rattle.xet_stages.specs.declared.outcomes.Outcome.{Outcome}
use Rattle.xet_leader.specs.Expiries.{counted, spends, stale_after}
use Rattle.xet_leader.specs.Keeping.{given_of, kept, places_at}
use Rattle.xet_leader.specs.Led.{Led}
use Rattle.xet_stages.specs.RoundRecords.{lanes_events, lanes_of, window_events}

-- ---- what is kept

-- the plans after the lanes' served blocks are kept, and after their expired ones are counted besides
abbrev pub plans_kept : List (List LaneStep) → List LedPlan → List LedPlan
plans_kept steps ls = kept (flat_map given_of steps) ls

abbrev pub plans_after : List (List LaneStep) → List LedPlan → List LedPlan
plans_after steps ls = counted (flat_map places_of steps) (plans_kept steps ls)

-- the tries of a block that expired are used up
abbrev pub is_spent : ℕ → List LaneEnd → List LedPlan → Bool
is_spent tries es ls = spends tries (flat_map places_of (lanes_of es)) (plans_kept (lanes_of es) ls)

-- the served blocks keep their data, the expired ones are counted and have tries left, and terms of these lengths
-- went
pub record KeptOutcome (tries : ℕ) (lengths : List ℕ) (es : List LaneEnd) (l k : Led) (o : Outcome) : Type 0 where
  pub left : is_spent tries es l.plans ≡ false
  pub led : k ≡ advanced (length lengths) (record l { plans = plans_after (lanes_of es) l.plans })
  pub served_are : places_at o.served.items ≡ flat_map got_of (lanes_of es)
  pub stale_are : o.stale.items ≡ stale_after (flat_map places_of (lanes_of es)) []
  pub lengths_are : o.lengths ≡ lengths

-- memory was wanting, or tries are used up
abbrev pub KeepFails : ℕ → List LaneEnd → Led → FileReconstructionError → Type 0
KeepFails tries es l e = (e ≡ error.OutOfMemory) ⊎ ((e ≡ error.UrlExpired) × (is_spent tries es l.plans ≡ true))

-- ---- what is recorded

abbrev pub join_events : Joined → List ℕ → List Event
join_events j lengths = lanes_events (lanes_of j.ends.items) ++ window_events j.wrote lengths

abbrev pub join_error : Joined → Option FileReconstructionError
join_error j = first_error j.wrote (map ended j.ends.items)

-- all of a join that has no error was recorded, and it was kept
pub record TookOutcome (tries : ℕ) (lengths : List ℕ) (j : Joined) (es fs : List Event) (l k : Led)
    (o : Outcome) : Type 0 where
  pub recorded : fs ≡ es ++ join_events j lengths
  pub none : join_error j ≡ None
  pub kept : KeptOutcome tries lengths j.ends.items l k o

-- all was recorded, and the join has this error; or it has none, and what it came to couldn't be kept
pub record OutcomeStops (tries : ℕ) (lengths : List ℕ) (j : Joined) (es fs : List Event) (l : Led)
    (e : FileReconstructionError) : Type 0 where
  pub recorded : fs ≡ es ++ join_events j lengths
  pub stops : (join_error j ≡ Some e) ⊎ ((join_error j ≡ None) × KeepFails tries j.ends.items l e)

-- or not all was recorded
abbrev pub OutcomeFails : ℕ → List ℕ → Joined → List Event → List Event → Led → FileReconstructionError → Type 0
OutcomeFails tries lengths j es fs l e =
    Recorded {A = Unit {0}} es fs (join_events j lengths) (Err e) ⊎ OutcomeStops tries lengths j es fs l e
