use Rattle.xet_ties.proofs.NewPairs.{new_pairs}
use Rattle.xet_ties.proofs.RoundAllowed.{round_allowed}
use Rattle.xet_ties.proofs.RoundShorts.{round_short}
use Rattle.xet_ties.proofs.RoundTies.{round_tied}
use Rattle.xet_ties.proofs.RoundTries.{round_may_expire}
use Rattle.xet_ties.proofs.laws.rounds_are_tied.Goals as goal

pub returns : goal.returns
returns c = record {
  new = new_pairs;
  allowed = round_allowed;
  tries = round_may_expire;
  round = round_tied;
  short = round_short;
}
