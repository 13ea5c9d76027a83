use Rattle.std.proofs.Common.{◌≡◌, map}
use Rattle.xet_base.specs.Lists.{first_some}
use Rattle.xet_lane.specs.JoinErrors.{end_error}
use Rattle.xet_lane.specs.Ends.{ended}
use Rattle.xet_lane.proofs.FirstErrors.{error_from}
use Rattle.xet_lane.proofs.joined.first_lane_error.Given as goal

abbrev pub invariant-loop-end : goal.invariant-loop-end
invariant-loop-end l = error_from l.end-index l.ends ≡ first_some (map end_error (map ended l.ends))
