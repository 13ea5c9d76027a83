use Rattle.std.proofs.Common.{append-nil, sym}
use Rattle.xet_audit.specs.Findings.{is_too_large}
use Rattle.xet_audit.proofs.Lists.{at_all, at_more, found_all, one_more}
use Rattle.xet_audit.proofs.xorb_faults.find_large_xorbs.Goals as goal

pub loop-a-init : goal.loop-a-init
loop-a-init c = sym (append-nil c.args.found.now.items)

pub loop-a-preserved : goal.loop-a-preserved
loop-a-preserved c =
    one_more _ _ _ _ _ _ c.loop-a.invariant (rw c.is_too_large.ensures at c.in_ok-add_if.ensures)
    (at_more 3 (λ i x. is_too_large x) c.args.xorbs.now c.loop-a.a c.index-xorbs-a.result c.loop-a-test.true c.index-xorbs-a.is)

pub returns : goal.returns
returns c = found_all _ _ _ _ c.loop-a.invariant (at_all 3 (λ i x. is_too_large x) c.args.xorbs.now c.loop-a.a c.loop-a-test.false)
