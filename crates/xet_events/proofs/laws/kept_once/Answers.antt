use Rattle.xet_events.proofs.Kept.{kept_once}
use Rattle.xet_events.proofs.laws.kept_once.Goals as goal

pub returns : goal.returns
returns c = kept_once
