use Rattle.xet_stream_laws.proofs.Joined.{pieces_go_on}
use Rattle.xet_stream_laws.proofs.laws.pieces_go_on.Goals as goal

pub returns : goal.returns
returns c = pieces_go_on
