-- What a whole join records.
use Rattle.std.specs.Prelude.{ℕ, List, [], ◌++◌, map, Result, Ok, Err}
use Rattle.xet_error.specs.declared.error.FileReconstructionError.{FileReconstructionError}
use Rattle.xet_events.specs.declared.event.Event.{Event}
use Rattle.xet_events.specs.Allowed.{AllowedAfter}
use Rattle.xet_ties.specs.declared.lane_step.LaneStep.{LaneStep}
use Rattle.xet_ties.specs.Recordings.{expired_on, fetched_on, lane_events, wrote_of}
use Rattle.xet_lane.specs.declared.joined.LaneEnd.{LaneEnd}
use Rattle.xet_lane.specs.Ends.{ended, steps_of}

-- the steps of each lane
abbrev pub lanes_of : List LaneEnd → List (List LaneStep)
lanes_of es = steps_of (map ended es)

-- the events of the served answers, and of those that a URL had expired
abbrev pub fetched_events : List (List LaneStep) → List Event
fetched_events ls = lane_events fetched_on 0 ls

abbrev pub expired_events : List (List LaneStep) → List Event
expired_events ls = lane_events expired_on 0 ls

-- of both, in the order in which they are recorded
abbrev pub lanes_events : List (List LaneStep) → List Event
lanes_events ls = fetched_events ls ++ expired_events ls

-- the events of a window of terms of these lengths, where all of it was written
abbrev pub window_events : Result ℕ FileReconstructionError → List ℕ → List Event
window_events (Ok n) ns = wrote_of ns
window_events (Err e) ns = []

-- all may be recorded in this order
pub record RoundMayBe (es : List Event) (ls : List (List LaneStep)) (window : List Event) : Type 0 where
  pub fetched : AllowedAfter es (fetched_events ls)
  pub expired : AllowedAfter (es ++ fetched_events ls) (expired_events ls)
  pub window_may : AllowedAfter (es ++ lanes_events ls) window
