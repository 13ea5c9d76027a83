use Rattle.xet_fetch.proofs.Fetching.{plan_own}
use Rattle.xet_fetch.proofs.laws.refreshes_answered.Goals as goal

pub returns : goal.returns
returns c = plan_own
