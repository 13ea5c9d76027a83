use Rattle.xet_download.proofs.Refusals.{refusals_are_four}
use Rattle.xet_download.proofs.laws.refusals_are_four.Goals as goal

pub returns : goal.returns
returns c = refusals_are_four
