use Rattle.std.proofs.Common.{rules}
use Rattle.xet_claims.proofs.PoolSteps.{halts}
use Rattle.xet_claims.proofs.claims.Claims.stop.Goals as goal

pub store-requires : goal.store-requires
store-requires c = (search rules, search rules, halts _ _ _ _ _ c.requires.of.2)
