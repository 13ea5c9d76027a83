use Rattle.xet_leader.proofs.AskedBlocks.{own_request}
use Rattle.xet_leader.proofs.stepping.fetch_at.Goals as goal

pub returns-clause-own : goal.returns-clause-own
returns-clause-own g c = own_request _ _ _ c.fetch_of.result c.fetch_of.ensures
