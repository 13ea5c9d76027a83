use Rattle.xet_history.proofs.TruePieces.{written_are_prefix}
use Rattle.xet_history.proofs.laws.written_are_prefix.Goals as goal

pub returns : goal.returns
returns c = written_are_prefix
