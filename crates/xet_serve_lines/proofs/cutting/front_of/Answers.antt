use Rattle.std.proofs.Common.{arith}
use Rattle.xet_serve_lines.proofs.Buffers.{place_within}
use Rattle.xet_serve_lines.proofs.cutting.front_of.Goals as goal

pub returns : goal.returns
returns c =
    let w = place_within 10 c.args.bytes.now in
    let e = c.first_place-length.ensures in
    let few = c.if-length-gt-MOST.false in
    let n = c.if-length-bytes.false in
    (e, omega (arith, w, e, n), omega (arith, few))
