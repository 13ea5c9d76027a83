use Rattle.xet_blocks.proofs.JoinedPieces.{pieces_sized}
use Rattle.xet_blocks.proofs.laws.pieces_sized.Goals as goal

pub returns : goal.returns
returns c = pieces_sized
