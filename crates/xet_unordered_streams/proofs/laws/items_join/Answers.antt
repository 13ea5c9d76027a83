use Rattle.xet_unordered_streams.proofs.Placed.{items_join}
use Rattle.xet_unordered_streams.proofs.laws.items_join.Goals as goal

pub returns : goal.returns
returns c = items_join
