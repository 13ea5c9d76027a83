-- What providing a block asks, and why it fails.
use Rattle.std.specs.Prelude.{ℕ, ◌≡◌, ◌+◌, ◌≤◌, ◌++◌, List, [], All, length, min, Option, None, IfSome}
use Rattle.xet_base.specs.declared.cas_types.FileRange.{FileRange}
use Rattle.xet_outside.specs.Told.{ClientTold}
use Rattle.xet_events.specs.declared.event.Event.{Event}
use Rattle.xet_ties.specs.declared.lane_step.LaneStep.{LaneStep}
use Rattle.xet_ties.specs.History.{limits_of}
use Rattle.xet_ties.specs.Lanes.{Ask}
use Rattle.xet_ties.specs.Setup.{Setup, most_lanes}
use Rattle.xet_stream_rules.specs.StepTold.{IsOf, IsTurn, MayAskFirst, MayAskLane}
use Rattle.xet_stream_rules.specs.StepTold.{StepCache}
use Rattle.xet_stream_rules.specs.Moments.{At, Lasts}
use Rattle.xet_error.specs.declared.error.FileReconstructionError.{FileReconstructionError}
use Rattle.xet_stream_rules.specs.Counts.{Counts, has}
use Rattle.xet_stream_rules.specs.MomentCauses.{CauseAt, IsSpentError, SpentIn}

-- what was asked for a block, and its events where they are recorded
pub record BlockPart (g : Setup) (x y : At) : Type 0 where
  pub block : Option (Ask × LaneStep)
  pub again : Option FileRange
  pub new : List Event
  pub added : y.events ≡ x.events ++ new
  pub lane : ℕ
  pub turn : IfSome block (λ _. IsTurn x.led.fetches (min (length x.clients) most_lanes) lane)
  pub fetched : List ClientTold
  pub asked : MayAskLane lane block x.clients fetched
  pub renewed : MayAskFirst g.file again fetched y.clients
  pub cached : ℕ
  pub served : ℕ
  pub late : ℕ
  pub refreshed : ℕ
  pub counts : Counts new 0 cached served late refreshed
  pub few : cached + served + late ≤ 1
  pub of_block : served + late ≤ has block
  pub of_again : refreshed ≤ has again
  pub of_it : (plan : Option FileRange) → All (IsOf lane (record { plan = plan; block = block; again = again })) new
  pub no_limits : limits_of new ≡ []
  pub cache : StepCache new x.cache y.cache
  pub lasts : Lasts g x y

-- providing a block failed
pub record BlockFails (g : Setup) (x y : At) (e : FileReconstructionError) : Type 0 where
  pub part : BlockPart g x y
  pub cause : CauseAt g x y part.new (record { plan = None; block = part.block; again = part.again }) e
  -- where the block spent its tries
  pub spent : SpentIn g part.new y.events → IsSpentError e
