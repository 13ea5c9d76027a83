use Rattle.std.proofs.Common.{◌≡◌, ◌<◌, ◌≤◌, arith, length, rules}
use Rattle.xet_base.specs.declared.cas_types.FileRange.{FileRange}
use Rattle.xet_gaps.specs.Gaps.{AreGaps}
use Rattle.xet_gaps.proofs.GapBytes.{range}
use Rattle.xet_gaps.proofs.Halves.{at_place, first_gap}
use Rattle.xet_gaps.proofs.gap_record.GapRecord.next_gap.Goals as goal

pub overflow_sub-gap : goal.overflow_sub-gap
overflow_sub-gap c =
    let are = rw (← c.gaps.ensures.gaps) at c.gaps.ensures.are in
    let some : 0 < length c.gaps.result.now = search rules in
    let at = (at_place 0 c.args.self.now.length_is c.gaps.result.now 0 (range 0 0) are some).1 in
    omega (arith, at)

pub returns-in-len1-up : goal.returns-in-len1-up
returns-in-len1-up c =
    let are = rw (← c.gaps.ensures.gaps) at c.gaps.ensures.are in
    let some : 0 < length c.gaps.result.now = search rules in
    rw (← c.gaps.ensures.gaps, c.min-length.ensures)
    (first_gap c.args.self.now.length_is c.args.at_most c.gaps.result.now (range 0 0) are some)
