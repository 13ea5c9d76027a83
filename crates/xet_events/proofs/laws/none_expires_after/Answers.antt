use Rattle.xet_events.proofs.Kept.{none_expires_after}
use Rattle.xet_events.proofs.laws.none_expires_after.Goals as goal

pub returns : goal.returns
returns c = none_expires_after
