use Rattle.std.proofs.Common.{◌≡◌, map}
use Rattle.std.specs.List.{list_any}
use Rattle.xet_lane.specs.JoinErrors.{lacks_memory}
use Rattle.xet_lane.specs.Ends.{ended}
use Rattle.xet_lane.proofs.FirstErrors.{lack_from}
use Rattle.xet_lane.proofs.joined.some_lacks_memory.Given as goal

abbrev pub invariant-loop-end : goal.invariant-loop-end
invariant-loop-end l = lack_from l.end-index l.ends ≡ list_any lacks_memory (map ended l.ends)
