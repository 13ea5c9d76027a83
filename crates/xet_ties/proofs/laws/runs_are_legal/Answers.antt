use Rattle.xet_ties.proofs.Legals.{legal_of}
use Rattle.xet_ties.proofs.laws.runs_are_legal.Goals as goal

pub returns : goal.returns
returns c = legal_of
