use Rattle.xet_reconstruct.proofs.HonestAnswers.{join, pass}
use Rattle.xet_reconstruct.proofs.laws.honest_answers.Goals as goal

pub returns : goal.returns
returns c = record { pass = pass; join = join }
