use Rattle.xet_history.proofs.TruePieces.{pieces_are_prefix}
use Rattle.xet_history.proofs.laws.pieces_are_prefix.Goals as goal

pub returns : goal.returns
returns c = pieces_are_prefix
