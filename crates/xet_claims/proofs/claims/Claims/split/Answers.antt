use Rattle.std.proofs.Common.{rules}
use Rattle.xet_claims.proofs.PoolSteps.{splits}
use Rattle.xet_claims.proofs.claims.Claims.split.Goals as goal

pub split_seat-seat-requires : goal.split_seat-seat-requires
split_seat-seat-requires c = (search rules, search rules, splits _ _ _ c.requires.heavy.0 c.requires.heavy.1)
