use Rattle.std.proofs.Common.{◌≤◌, arith, length, take}
use Rattle.xet_agree.proofs.Passing.{other_of, same_of, take_other, take_same}
use Rattle.xet_agree.proofs.walks.pass_bytes.Goals as goal

pub returns-then-ne-clause-other : goal.returns-then-ne-clause-other
returns-then-ne-clause-other c x y =
    let a = c.args.at_a.now.rest in
    let b = c.args.at_b.now.rest in
    let n = c.min-count.result in
    let least = c.min-count.ensures in
    let first = c.len.ensures.value in
    let second = c.len-2.ensures.value in
    let in_a : n ≤ length a = omega (arith, least, first) in
    let in_b : n ≤ length b = omega (arith, least, second) in
    let h = c.if-ne.ensures in
    take_other a b x y n in_a in_b (other_of (take n a) (take n b) (rw (c.as_slice.ensures, c.as_slice-2.ensures) at h))

pub returns-clause-same : goal.returns-clause-same
returns-clause-same c =
    let a = c.args.at_a.now.rest in
    let b = c.args.at_b.now.rest in
    let n = c.min-count.result in
    let h = c.if-ne.ensures in
    rw (c.advance.ensures, c.advance-2.ensures)
    (take_same a b n (same_of (take n a) (take n b) (rw (c.as_slice.ensures, c.as_slice-2.ensures) at h)))
