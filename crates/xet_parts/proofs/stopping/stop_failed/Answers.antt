use Rattle.xet_parts.proofs.Running.{running_uncancelled}
use Rattle.xet_parts.proofs.stopping.stop_failed.Goals as goal

pub unreachable-requires : goal.unreachable-requires
unreachable-requires g c = c.in-Err-NotAllowed.ensures.refused (cc) (running_uncancelled c.args.core.now c.requires.running)
