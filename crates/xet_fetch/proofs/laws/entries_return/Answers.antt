use Rattle.xet_fetch.proofs.HonestEntries.{entries_return}
use Rattle.xet_fetch.proofs.laws.entries_return.Goals as goal

pub returns : goal.returns
returns c = entries_return
