use Rattle.xet_blocks.proofs.ServedChunks.{served_chunks}
use Rattle.xet_blocks.proofs.laws.served_chunks.Goals as goal

pub returns : goal.returns
returns c = served_chunks
