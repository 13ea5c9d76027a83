use Rattle.std.proofs.Common.{◌∙◌}
use Rattle.xet_store.proofs.JoinedParts.{ends-next, part-some}
use Rattle.xet_store.proofs.joined_xorb.has_empty_part.Goals as goal

pub loop-end-preserved : goal.loop-end-preserved
loop-end-preserved c =
    let bytes = c.args.bytes.now in
    let ends = c.args.ends.now in
    let i = c.loop-end.end-index in
    let start = c.loop-end.start in
    let order = c.loop-end.invariant.ends in
    record {
      ends = ends-next bytes ends i start c.loop-end-test.true order;
      left = c.loop-end.invariant.left ∙ part-some bytes ends i start c.loop-end-test.true order c.if-end-start.false;
    }
