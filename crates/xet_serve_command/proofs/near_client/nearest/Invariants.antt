use Rattle.std.proofs.Common.{◌-◌, ◌<◌, length}
use Rattle.xet_serve_command.proofs.near_client.nearest.Given as goal

abbrev pub invariant-nearest : goal.invariant-nearest
invariant-nearest l = l.best < length l.starts

abbrev pub decreases-nearest : goal.decreases-nearest
decreases-nearest l = length l.starts - l.number
