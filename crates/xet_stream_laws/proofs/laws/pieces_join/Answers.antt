use Rattle.xet_stream_laws.proofs.Joined.{pieces_join}
use Rattle.xet_stream_laws.proofs.laws.pieces_join.Goals as goal

pub returns : goal.returns
returns c = pieces_join
