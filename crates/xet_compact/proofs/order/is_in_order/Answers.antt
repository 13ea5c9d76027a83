use Rattle.xet_compact.proofs.Compacting.{in_order}
use Rattle.xet_compact.proofs.order.is_in_order.Goals as goal

pub returns-then-xorbs_ascend : goal.returns-then-xorbs_ascend
returns-then-xorbs_ascend c =
    in_order c.args.raw.now c.files_ascend.result
    (rw c.as_slice.ensures at (rw c.if-xorbs_ascend.true at c.xorbs_ascend.ensures))
    (rw c.as_slice-then-xorbs_ascend.ensures at c.files_ascend.ensures)
