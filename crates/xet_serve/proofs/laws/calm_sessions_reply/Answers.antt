use Rattle.xet_serve.proofs.Calm.{begin, end, reply}
use Rattle.xet_serve.proofs.laws.calm_sessions_reply.Goals as goal

pub returns : goal.returns
returns c = record { reply = reply; end = end; begin = begin }
