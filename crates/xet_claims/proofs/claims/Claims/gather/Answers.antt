use Rattle.std.proofs.Common.{rules}
use Rattle.xet_claims.proofs.PoolSteps.{joins}
use Rattle.xet_claims.proofs.claims.Claims.gather.Goals as goal

pub join_seat-requires : goal.join_seat-requires
join_seat-requires c = (search rules, search rules, search rules, search rules, joins _ _ _ _ _)
