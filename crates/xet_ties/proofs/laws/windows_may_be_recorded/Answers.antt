use Rattle.xet_ties.proofs.Windows.{wanted_is, wrote_allowed}
use Rattle.xet_ties.proofs.WindowTests.{window_tested}
use Rattle.xet_ties.proofs.laws.windows_may_be_recorded.Goals as goal

pub returns : goal.returns
returns c = record {
  wanted = wanted_is;
  allowed = wrote_allowed;
  tested = window_tested;
}
