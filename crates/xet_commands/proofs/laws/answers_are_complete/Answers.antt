use Rattle.xet_commands.proofs.Complete.{complete}
use Rattle.xet_commands.proofs.laws.answers_are_complete.Goals as goal

pub returns : goal.returns
returns c = complete
