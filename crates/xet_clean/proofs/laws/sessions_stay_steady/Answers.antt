use Rattle.xet_clean.proofs.Accepting.{calls-steady, learning-steady}
use Rattle.xet_clean.proofs.laws.sessions_stay_steady.Goals as goal

pub returns : goal.returns
returns c = record { calls = calls-steady; learning = learning-steady }
