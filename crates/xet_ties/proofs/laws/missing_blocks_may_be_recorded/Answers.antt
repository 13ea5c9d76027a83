use Rattle.xet_ties.proofs.Missing.{expired_allowed, fetched_allowed, lanes_may_expire}
use Rattle.xet_ties.proofs.laws.missing_blocks_may_be_recorded.Goals as goal

pub returns : goal.returns
returns c = record {
  fetched = fetched_allowed;
  expired = expired_allowed;
  tries = lanes_may_expire;
}
