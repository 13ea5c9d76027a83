use Rattle.xet_blocks.proofs.KnownSizes.{known_sizes}
use Rattle.xet_blocks.proofs.laws.told_sizes.Goals as goal

pub returns : goal.returns
returns c = known_sizes
