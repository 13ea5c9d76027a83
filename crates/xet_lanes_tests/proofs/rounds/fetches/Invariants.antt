use Rattle.std.proofs.Common.{map}
use Rattle.std.specs.Prelude.{All}
use Rattle.xet_ties.specs.Lanes.{IsFor}
use Rattle.xet_lane.specs.Fetches.{ask_of}
use Rattle.xet_lanes_tests.proofs.rounds.fetches.Given as goal

abbrev pub invariant-loop-number : goal.invariant-loop-number
invariant-loop-number l = record { all : All IsFor (map ask_of l.all.items) }
