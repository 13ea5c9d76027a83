use Rattle.xet_terms.proofs.Managing.{reaches_end}
use Rattle.xet_terms.proofs.laws.queries_reach.Goals as goal

pub returns : goal.returns
returns c = reaches_end
