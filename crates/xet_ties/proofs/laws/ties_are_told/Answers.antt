use Rattle.xet_ties.proofs.Asks.{first_asks}
use Rattle.xet_ties.proofs.Legals.{planned_heard, tested_heard}
use Rattle.xet_ties.proofs.Pairs.{served_once}
use Rattle.xet_ties.proofs.laws.ties_are_told.Goals as goal

pub returns : goal.returns
returns c = record {
  once = λ g b n es stop sl t. served_once es b.clients n.clients sl.heard sl.hidden sl.late t.heard t.heard_served t.served;
  planned = planned_heard;
  cut = λ g b n es stop sl t. first_asks g es sl.lost b.clients n.clients t.within t.cuts t.lost t.asked;
  tested = tested_heard;
}
