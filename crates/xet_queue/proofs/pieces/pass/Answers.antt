use Rattle.std.proofs.Common.{◌≡◌, ◌≤◌, ◌<◌, length, arith, ◌∙◌, ap, sym, get_or}
use Rattle.std.proofs.lemmas.List.{get_or_default}
use Rattle.xet_queue.proofs.Joined.{before_next, pass_within}
use Rattle.xet_queue.proofs.pieces.pass.Goals as goal

pub loop-at-preserved : goal.loop-at-preserved
loop-at-preserved c =
    let ps = c.args.pieces.now in
    let at = c.loop-at.at in
    let p = c.index-pieces-at.result in
    let q = c.index-pieces-at-in-loop-at.result in
    let h : at < length ps = c.loop-at-test.true in
    let e1 : p ≡ get_or ps at p = c.index-pieces-at.is in
    let e3 : get_or ps at p ≡ get_or ps at q = get_or_default ps at p q h in
    let n : c.len-left.result ≡ length p = c.len-left.ensures.value ∙ ap length (c.index-pieces-at-in-loop-at.is ∙ sym e3 ∙ sym e1) in
    let l : length p ≤ c.loop-at.left = let e = c.len.ensures.value in let f = ap length e1 in let t = c.if-len-left.true in omega arith in
    let inv = c.loop-at.invariant in
    let b = before_next ps at p h c.index-pieces-at.is in
    let i = inv.place in
    record {
      within = omega arith;
      left = rw n (pass_within ps at c.loop-at.left p h c.index-pieces-at.is l inv.left);
      place = omega arith;
    }
