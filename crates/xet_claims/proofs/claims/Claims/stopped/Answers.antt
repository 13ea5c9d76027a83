use Rattle.std.proofs.Common.{rules}
use Rattle.xet_claims.proofs.PoolSteps.{looks}
use Rattle.xet_claims.proofs.claims.Claims.stopped.Goals as goal

pub load-requires : goal.load-requires
load-requires c = (search rules, search rules, looks _ _ _ _ _ c.requires.of.2)
