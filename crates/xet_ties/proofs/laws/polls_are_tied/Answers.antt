use Rattle.xet_ties.proofs.Moves.{tie_poll}
use Rattle.xet_ties.proofs.PartTies.{stop_ties}
use Rattle.std.proofs.Common.{refl}
use Rattle.xet_ties.proofs.laws.polls_are_tied.Goals as goal

pub returns : goal.returns
returns c = record {
  calm = tie_poll;
  stop = λ g b at es sl after a t. stop_ties g b at es sl at.signal after refl a t;
}
