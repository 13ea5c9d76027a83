use Rattle.xet_events.proofs.Bounds.{within_limit}
use Rattle.xet_events.proofs.laws.within_limit.Goals as goal

pub returns : goal.returns
returns c = within_limit
