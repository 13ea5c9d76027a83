use Rattle.std.proofs.Common.{◌≡◌, subst, List, ℕ, ◌<◌, All, flat_map}
use Rattle.json.specs.Token.{Token}
use Rattle.xet_compact.specs.steps.Writes.{Adds, chunk_tokens}
use Rattle.xet_compact.proofs.Writes.{adds_more, adds_one}
use Rattle.xet_compact.proofs.writing.write_xorb.Goals as goal

pub returns-clause-written : goal.returns-clause-written
returns-clause-written c =
    adds_more c.in_ok-write_key.ensures.written (adds_more (adds_one c.in_ok-begin_array.ensures.room.0 c.in_ok-begin_array.ensures.ok)
    (adds_more (rw c.as_slice.ensures at c.in_ok-write_chunks.ensures.written) (adds_one c.in_ok-end_array.ensures.room.0
    c.in_ok-end_array.ensures.ok)))

pub returns-clause-told : goal.returns-clause-told
returns-clause-told c = (c.write_key.ensures.told, rw c.as_slice.ensures at c.in_ok-write_chunks.ensures.told)
