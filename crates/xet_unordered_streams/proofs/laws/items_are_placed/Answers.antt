use Rattle.xet_unordered_streams.proofs.Placed.{items_are_placed}
use Rattle.xet_unordered_streams.proofs.laws.items_are_placed.Goals as goal

pub returns : goal.returns
returns c = items_are_placed
