use Rattle.std.proofs.Common.{◌==◌, append-nil, length, sym}
use Rattle.xet_audit.proofs.Lists.{found_all, one_more, part_all, part_more}
use Rattle.xet_audit.proofs.xorb_faults.find_empty_in.Goals as goal

pub loop-b-init : goal.loop-b-init
loop-b-init c = sym (append-nil c.args.found.now.items)

pub loop-b-preserved : goal.loop-b-preserved
loop-b-preserved c =
    one_more _ _ _ _ _ _ c.loop-b.invariant (rw c.is_empty.ensures at c.in_ok-add_if.ensures)
    (part_more 2 (λ c. length c == 0) c.args.xorb c.args.chunks.now c.loop-b.b c.index-chunks-b.result c.loop-b-test.true c.index-chunks-b.is)

pub returns : goal.returns
returns c =
    found_all _ _ _ _ c.loop-b.invariant (part_all 2 (λ c. length c == 0) c.args.xorb c.args.chunks.now c.loop-b.b c.loop-b-test.false)
