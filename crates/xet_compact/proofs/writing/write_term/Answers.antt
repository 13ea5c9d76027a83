use Rattle.xet_compact.proofs.Writes.{adds_more, adds_one}
use Rattle.xet_compact.proofs.writing.write_term.Goals as goal

pub returns-clause-written : goal.returns-clause-written
returns-clause-written c =
    adds_more (adds_one c.in_ok-begin_array.ensures.room.0 c.in_ok-begin_array.ensures.ok) (adds_more
    (rw c.as_slice.ensures at c.in_ok-write_bytes.ensures.written) (adds_more (adds_one {b = c.u64.new.self} c.in_ok-u64.ensures.room.0
    (rw c.from.ensures at c.in_ok-u64.ensures.ok)) (adds_more (adds_one {b = c.u64-2.new.self} c.in_ok-u64-2.ensures.room.0 (rw c.from-2.ensures at c.in_ok-u64-2.ensures.ok))
    (adds_one c.in_ok-end_array.ensures.room.0 c.in_ok-end_array.ensures.ok))))
