use Rattle.xet_compact.proofs.Writes.{adds_more, adds_one}
use Rattle.xet_compact.proofs.writing.write_all_files.Goals as goal

pub returns-clause-written : goal.returns-clause-written
returns-clause-written c =
    adds_more c.in_ok-begin.ensures (adds_more c.in_ok-write_files.ensures.written (adds_one c.in_ok-end_object.ensures.room.0
    c.in_ok-end_object.ensures.ok))
