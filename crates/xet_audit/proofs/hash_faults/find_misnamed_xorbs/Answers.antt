use Rattle.std.proofs.Common.{◌∙◌, append-nil, map, not, sym}
use Rattle.xet_base.specs.declared.mdb_shard.Xorb.{Xorb}
use Rattle.xet_audit.specs.Findings.{is_xorb_hash}
use Rattle.xet_audit.specs.steps.Records.{record_of}
use Rattle.xet_audit.proofs.Lists.{at_all, at_more, found_all, mapped_read, one_more}
use Rattle.xet_audit.proofs.hash_faults.find_misnamed_xorbs.Goals as goal

pub loop-a-init : goal.loop-a-init
loop-a-init c = sym (append-nil c.args.found.now.items)

pub loop-a-preserved : goal.loop-a-preserved
loop-a-preserved c =
    let x = c.index-xorbs-a.result in
    let i = c.loop-a.a in
    let own = mapped_read (λ (y : Xorb). map record_of y.chunks) c.args.xorbs.now c.args.records.now i x c.index-records-a.result c.requires c.loop-a-test.true c.index-xorbs-a.is c.index-records-a.is in
    let test = c.has_xorb_hash.ensures x.chunks (c.as_slice.ensures ∙ own) in
    one_more _ _ _ _ _ _ c.loop-a.invariant (rw test at c.in_ok-add_if.ensures)
    (at_more 8 (λ n (y : Xorb). not (is_xorb_hash y.hash y.chunks)) c.args.xorbs.now i x c.loop-a-test.true c.index-xorbs-a.is)

pub returns : goal.returns
returns c =
    found_all _ _ _ _ c.loop-a.invariant (at_all 8 (λ i (x : Xorb). not (is_xorb_hash x.hash x.chunks)) c.args.xorbs.now c.loop-a.a c.loop-a-test.false)
