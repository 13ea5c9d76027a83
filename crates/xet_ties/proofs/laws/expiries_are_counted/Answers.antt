use Rattle.xet_ties.proofs.Expiries.{have_expired}
use Rattle.xet_ties.proofs.Renewals.{refreshes_few}
use Rattle.xet_ties.proofs.laws.expiries_are_counted.Goals as goal

pub returns : goal.returns
returns c = record {
  expired = have_expired;
  refreshed = refreshes_few;
}
