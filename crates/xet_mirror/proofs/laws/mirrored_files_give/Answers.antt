use Rattle.xet_mirror.proofs.MirrorLaws.{mirrored-agrees, mirrored-gives, none-bad, none-missing}
use Rattle.xet_mirror.proofs.Stopped.{stopped-agrees}
use Rattle.xet_mirror.proofs.laws.mirrored_files_give.Goals as goal

pub returns : goal.returns
returns c = record { gives = mirrored-gives; agrees = mirrored-agrees; stopped = stopped-agrees; missing = none-missing; bad = none-bad }
