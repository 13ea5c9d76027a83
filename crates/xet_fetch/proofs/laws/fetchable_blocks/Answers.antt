use Rattle.xet_fetch.proofs.Requestable.{fetchable_blocks}
use Rattle.xet_fetch.proofs.laws.fetchable_blocks.Goals as goal

pub returns : goal.returns
returns c = fetchable_blocks
