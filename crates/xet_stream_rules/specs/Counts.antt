-- How many events of each kind a part of a step adds.
use Rattle.std.specs.Prelude.{ℕ, ◌≡◌, ◌+◌, List, count_by, Option, Some, None}
use Rattle.xet_events.specs.declared.event.Event.{Event}
use Rattle.xet_events.specs.Allowed.{IsRunning}
use Rattle.xet_events.specs.Events.{is_plan}
use Rattle.xet_ties.specs.History.{is_expiry, is_fetch, is_refresh}
use Rattle.xet_stream_rules.specs.StepTold.{is_cached}
use Rattle.xet_stream_rules.specs.Streams.{delivered}

-- so many events of each kind, a fetch being served or late, and no piece and no error
pub record Counts (new : List Event) (plans cached fetched late refreshes : ℕ) : Type 0 where
  pub plans_are : count_by is_plan new ≡ plans
  pub cached_are : count_by is_cached new ≡ cached
  pub fetched_are : count_by is_fetch new ≡ fetched + late
  pub late_are : count_by is_expiry new ≡ late
  pub refreshes_are : count_by is_refresh new ≡ refreshes
  pub pieces_are : delivered new ≡ 0
  pub running_is : IsRunning new

-- one where there is something
abbrev pub has : {A : Type 0} → Option A → ℕ
has None = 0
has (Some x) = 1
