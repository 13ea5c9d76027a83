use Rattle.std.proofs.Common.{◌<◌, arith}
use Rattle.xet_gaps.proofs.Halves.{touched_is}
use Rattle.xet_gaps.proofs.touching.find_touched.Goals as goal

pub returns : goal.returns
returns c =
    let none = c.if-range.false in
    let some : c.args.range.start < c.args.range.end = omega (arith, none) in
    touched_is c.args.range c.args.gaps.now c.count_ended-from.result c.count_started-to.result some c.count_ended-from.ensures.within
    c.count_started-to.ensures.within c.count_ended-from.ensures.point c.count_started-to.ensures.point c.requires
