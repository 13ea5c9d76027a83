use Rattle.xet_compact.proofs.RawFiles.{listable_file}
use Rattle.xet_compact.proofs.Writes.{adds_more, adds_one}
use Rattle.xet_compact.proofs.writing.write_file.Goals as goal

pub returns-clause-written : goal.returns-clause-written
returns-clause-written c =
    adds_more c.in_ok-write_key.ensures.written (adds_more (adds_one c.in_ok-begin_array.ensures.room.0 c.in_ok-begin_array.ensures.ok)
    (adds_more (rw c.as_slice.ensures at c.in_ok-write_terms.ensures.written) (adds_one c.in_ok-end_array.ensures.room.0
    c.in_ok-end_array.ensures.ok)))

pub returns-clause-told : goal.returns-clause-told
returns-clause-told c =
    listable_file c.args.file.now c.write_key.ensures.told (rw c.as_slice.ensures at c.in_ok-write_terms.ensures.told)
