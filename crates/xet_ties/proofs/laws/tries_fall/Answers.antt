use Rattle.xet_ties.proofs.Measures.{left-push, left_cached, left_expired, left_fetched}
use Rattle.xet_ties.proofs.laws.tries_fall.Goals as goal

pub returns : goal.returns
returns c = record {
  fetched = left_fetched;
  cached = left_cached;
  expired = left_expired;
  none = left-push;
}
