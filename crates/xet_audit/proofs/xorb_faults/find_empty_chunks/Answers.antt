use Rattle.std.proofs.Common.{◌==◌, append-nil, length, sym}
use Rattle.xet_base.specs.declared.mdb_shard.Xorb.{Xorb}
use Rattle.xet_audit.proofs.Lists.{found_all, one_more, within_all, within_more}
use Rattle.xet_audit.proofs.xorb_faults.find_empty_chunks.Goals as goal

pub loop-a-init : goal.loop-a-init
loop-a-init c = sym (append-nil c.args.found.now.items)

pub loop-a-preserved : goal.loop-a-preserved
loop-a-preserved c =
    one_more _ _ _ _ _ _ c.loop-a.invariant (rw c.as_slice.ensures at c.in_ok-find_empty_in.ensures)
    (within_more 2 (λ (x : Xorb). x.chunks) (λ c. length c == 0) c.args.xorbs.now c.loop-a.a c.index-xorbs-a.result c.loop-a-test.true c.index-xorbs-a.is)

pub returns : goal.returns
returns c =
    found_all _ _ _ _ c.loop-a.invariant (within_all 2 (λ (x : Xorb). x.chunks) (λ c. length c == 0) c.args.xorbs.now c.loop-a.a c.loop-a-test.false)
