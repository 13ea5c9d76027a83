-- What looking for the next term asks, and why it fails.
use Rattle.std.specs.Prelude.{ℕ, ◌≡◌, ◌≤◌, ◌++◌, List, [], All, Option, None}
use Rattle.xet_base.specs.declared.cas_types.FileRange.{FileRange}
use Rattle.xet_events.specs.declared.event.Event.{Event}
use Rattle.xet_ties.specs.declared.lane_step.LaneStep.{LaneStep}
use Rattle.xet_ties.specs.History.{limits_of}
use Rattle.xet_ties.specs.Lanes.{Ask}
use Rattle.xet_ties.specs.Setup.{Setup}
use Rattle.xet_stream_rules.specs.StepTold.{Asks, IsOf, MayAskFirst}
use Rattle.xet_stream_rules.specs.Moments.{At, Lasts}
use Rattle.xet_error.specs.declared.error.FileReconstructionError.{FileReconstructionError}
use Rattle.xet_stream_rules.specs.Counts.{Counts, has}
use Rattle.xet_stream_rules.specs.MomentCauses.{CauseAt}

-- a query at most, and its plan where it is recorded
pub record PlanPart (g : Setup) (x y : At) : Type 0 where
  pub asked : Option FileRange
  pub calls : MayAskFirst g.file asked x.clients y.clients
  pub new : List Event
  pub added : y.events ≡ x.events ++ new
  pub plans : ℕ
  pub counts : Counts new plans 0 0 0 0
  pub few : plans ≤ has asked
  pub of_it : (lane : ℕ) (block : Option (Ask × LaneStep)) (again : Option FileRange)
      → All (IsOf lane (record { plan = asked; block = block; again = again })) new
  pub no_limits : limits_of new ≡ []
  pub lasts : Lasts g x y
  pub cache : y.cache ≡ x.cache

-- a plan's query alone
abbrev pub asks_plan : Option FileRange → Asks
asks_plan q = record { plan = q; block = None; again = None }

-- looking for the next term failed
pub record PlanFails (g : Setup) (x y : At) (e : FileReconstructionError) : Type 0 where
  pub part : PlanPart g x y
  pub cause : CauseAt g x y part.new (asks_plan part.asked) e
