use Rattle.xet_offers.specs.BlockEquality.{blocks_equal}
use Rattle.xet_blocks.proofs.laws.blocks_equal.Goals as goal

pub returns : goal.returns
returns c = blocks_equal
