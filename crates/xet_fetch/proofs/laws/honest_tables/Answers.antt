use Rattle.xet_fetch.proofs.HonestRefreshes.{honest_tables}
use Rattle.xet_fetch.proofs.laws.honest_tables.Goals as goal

pub returns : goal.returns
returns c = honest_tables
