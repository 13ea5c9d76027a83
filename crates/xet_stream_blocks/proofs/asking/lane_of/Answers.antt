use Rattle.std.proofs.Common.{◌≡◌, ◌<◌, ◌%◌, ap, arith, min}
use Rattle.xet_ties.specs.Setup.{most_lanes}
use Rattle.xet_stream_blocks.proofs.LaneAsks.{is_turn}
use Rattle.xet_stream_blocks.proofs.asking.lane_of.Goals as goal

pub returns : goal.returns
returns c =
    let lanes = c.min-lanes.ensures in
    let count : c.min-lanes.result ≡ min c.args.connections most_lanes = omega (arith, lanes) in
    let some : 0 < min c.args.connections most_lanes = omega (arith, c.requires) in
    is_turn c.args.fetches (min c.args.connections most_lanes) _ some (ap (λ n. c.args.fetches % n) count)
