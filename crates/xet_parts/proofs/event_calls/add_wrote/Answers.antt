use Rattle.xet_parts.proofs.Recording.{recorded_not, recorded_one}
use Rattle.xet_parts.proofs.event_calls.add_wrote.Goals as goal

pub returns-in-Ok-clause-recorded : goal.returns-in-Ok-clause-recorded
returns-in-Ok-clause-recorded g c = recorded_one _ _ _ c.in-Ok.ensures.added

pub returns-in-Err-OutOfMemory-clause-recorded : goal.returns-in-Err-OutOfMemory-clause-recorded
returns-in-Err-OutOfMemory-clause-recorded g c = recorded_not _ _ _ c.in-Err-OutOfMemory.ensures.kept

pub returns-in-Err-OutOfMemory-clause-kept : goal.returns-in-Err-OutOfMemory-clause-kept
returns-in-Err-OutOfMemory-clause-kept g c = c.in-Err-OutOfMemory.ensures.kept

pub unreachable-requires : goal.unreachable-requires
unreachable-requires g c = c.in-Err-NotAllowed.ensures.refused (cc) c.requires
