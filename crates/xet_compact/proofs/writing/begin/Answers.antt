use Rattle.xet_compact.proofs.Writes.{adds_more, adds_one}
use Rattle.xet_compact.proofs.writing.begin.Goals as goal

pub returns : goal.returns
returns c = adds_more (adds_one {b = c.key.new.self} c.in_ok-key.ensures.room.0 c.in_ok-key.ensures.ok) (adds_one c.in_ok-begin_object.ensures.room.0 c.in_ok-begin_object.ensures.ok)
