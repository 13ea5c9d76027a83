use Rattle.xet_ties.proofs.PartTies.{look_short_ties, look_up_ties, offered_block}
use Rattle.std.proofs.Common.{refl}
use Rattle.xet_ties.proofs.laws.looks_are_tied.Goals as goal

pub returns : goal.returns
returns c = record {
  look = λ g b at es fs sl after x y p l planned honest t. look_up_ties g b at es fs sl at.cache after x y p refl l planned honest t;
  short = λ g b at es fs sl after x l t. look_short_ties g b at es fs sl at.cache after x refl l t;
  offer = offered_block;
}
