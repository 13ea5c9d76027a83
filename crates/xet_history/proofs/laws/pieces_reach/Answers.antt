use Rattle.xet_history.proofs.Reached.{pieces_reach}
use Rattle.xet_history.proofs.laws.pieces_reach.Goals as goal

pub returns : goal.returns
returns c = pieces_reach
