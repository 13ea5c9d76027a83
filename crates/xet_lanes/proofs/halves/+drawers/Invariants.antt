use Rattle.std.proofs.Common.{◌+◌, ◌-◌, ◌*◌}
use Rattle.xet_lanes.proofs.halves.+drawers.Given as goal

abbrev pub decreases-draw_from : goal.decreases-draw_from
decreases-draw_from g l = 4 * l.count

abbrev pub decreases-draw_both : goal.decreases-draw_both
decreases-draw_both g l = 4 * (l.low + l.high) - 1

abbrev pub decreases-draw_both-lower : goal.decreases-draw_both-lower
decreases-draw_both-lower g l = 4 * l.low + 1

abbrev pub decreases-draw_both-upper : goal.decreases-draw_both-upper
decreases-draw_both-upper g l = 4 * l.high + 1
