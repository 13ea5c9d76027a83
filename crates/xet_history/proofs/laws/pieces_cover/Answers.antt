use Rattle.xet_history.proofs.TruePieces.{pieces_cover}
use Rattle.xet_history.proofs.laws.pieces_cover.Goals as goal

pub returns : goal.returns
returns c = pieces_cover
