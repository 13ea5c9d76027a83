-- What a lane hands back, and lanes that all ended well.
use Rattle.std.specs.Prelude.{◌≡◌, Bool, false, List, [], ◌∷◌, map, None}
use Rattle.xet_ties.specs.declared.lane_step.LaneStep.{LaneStep}
use Rattle.xet_lane.specs.declared.joined.LaneEnd.{LaneEnd}
use Rattle.xet_lane.specs.Fetches.{last_error}

-- what a lane hands back: its steps, and whether memory ran out besides
pub record End : Type 0 where
  pub steps : List LaneStep
  pub short : Bool

abbrev pub ended : LaneEnd → End
ended e = record { steps = e.steps.items; short = e.short }

-- the steps of each lane
abbrev pub steps_of : List End → List (List LaneStep)
steps_of es = map (λ (e : End). e.steps) es

-- memory sufficed, and no step failed
abbrev pub NoneEndedBadly : List End → Type 0
NoneEndedBadly [] = Unit {0}
NoneEndedBadly (e ∷ es) = (e.short ≡ false) × (last_error e.steps ≡ None) × NoneEndedBadly es
