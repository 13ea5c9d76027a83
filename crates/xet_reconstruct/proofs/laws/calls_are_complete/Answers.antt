use Rattle.xet_reconstruct.proofs.Complete.{legal_complete}
use Rattle.xet_reconstruct.proofs.laws.calls_are_complete.Goals as goal

pub returns : goal.returns
returns c = legal_complete
