use Rattle.xet_ties.proofs.CallerLemmas.{tie_short}
use Rattle.xet_ties.proofs.CallerLemmas.{tie_start, tie_stop}
use Rattle.xet_ties.proofs.laws.starts_and_stops.Goals as goal

pub returns : goal.returns
returns c = record {
  start = tie_start;
  stop = λ g b n es sl x spent t. (tie_stop g b n es sl x spent t, tie_short g b n es sl t);
}
