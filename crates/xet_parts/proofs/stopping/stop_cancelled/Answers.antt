use Rattle.xet_parts.proofs.stopping.stop_cancelled.Goals as goal

pub unreachable-requires : goal.unreachable-requires
unreachable-requires g c = c.in-Err-NotAllowed.ensures.refused (cc) c.requires
