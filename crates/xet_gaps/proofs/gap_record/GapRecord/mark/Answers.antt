use Rattle.std.proofs.Common.{◌≡◌, List, drop, subst, sym}
use Rattle.xet_base.specs.declared.cas_types.FileRange.{FileRange}
use Rattle.xet_gaps.specs.Gaps.{AreGaps}
use Rattle.xet_gaps.proofs.GapLists.{less_gaps}
use Rattle.xet_gaps.proofs.gap_record.GapRecord.mark.Goals as goal

pub invariant_of-self-2 : goal.invariant_of-self-2
invariant_of-self-2 c =
    let took = c.take_range-self-inside.ensures in
    let are : AreGaps 0 c.self.inside.size (drop c.self.inside.first c.reserve.new.self.items) =
    subst (λ (l : List FileRange). AreGaps 0 c.self.inside.size (drop c.self.inside.first l)) (sym c.reserve.ensures.items)
    c.self.invariant.1 in (
      took.within,
      subst (AreGaps 0 c.self.inside.size) (sym took.left)
          (less_gaps (drop c.self.inside.first c.reserve.new.self.items) c.args.range c.self.inside.size are),
    )
