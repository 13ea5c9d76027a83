use Rattle.xet_compact.proofs.Writes.{adds_more, adds_one}
use Rattle.xet_compact.proofs.writing.write_store.Goals as goal

pub returns-clause-written : goal.returns-clause-written
returns-clause-written c =
    adds_more (adds_one c.in_ok-begin_object.ensures.room.0 c.in_ok-begin_object.ensures.ok) (adds_more
    (rw c.as_slice.ensures at c.in_ok-write_all_files.ensures.written) (adds_more
    (rw c.as_slice-2.ensures at c.in_ok-write_all_xorbs.ensures.written) (adds_one c.in_ok-end_object.ensures.room.0
    c.in_ok-end_object.ensures.ok)))

pub returns-clause-told : goal.returns-clause-told
returns-clause-told c = record {
  xorbs = rw c.as_slice-2.ensures at c.in_ok-write_all_xorbs.ensures.told;
  files = rw c.as_slice.ensures at c.in_ok-write_all_files.ensures.told;
}
