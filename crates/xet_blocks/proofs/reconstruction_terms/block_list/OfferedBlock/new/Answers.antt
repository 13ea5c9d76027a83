use Rattle.std.proofs.Common.{refl}
use Rattle.xet_blocks.proofs.reconstruction_terms.block_list.OfferedBlock.new.Goals as goal

pub returns : goal.returns
returns c = record {
  xorb = refl;
  place = refl;
  number = refl;
  ranges = refl;
  url = refl;
}
