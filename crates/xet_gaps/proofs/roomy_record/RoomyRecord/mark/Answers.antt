use Rattle.std.proofs.Common.{◌≡◌, drop, subst, sym}
use Rattle.xet_gaps.specs.Gaps.{AreGaps}
use Rattle.xet_gaps.proofs.GapLists.{less_gaps}
use Rattle.xet_gaps.proofs.roomy_record.RoomyRecord.mark.Goals as goal

pub invariant_of-result : goal.invariant_of-result
invariant_of-result c =
    let took = c.take_range-first.ensures in (
      took.within,
      subst (AreGaps 0 c.self.inside.size) (sym took.left)
          (less_gaps (drop c.self.inside.first c.self.inside.gaps.items) c.args.range c.self.inside.size c.self.invariant.1),
    )
