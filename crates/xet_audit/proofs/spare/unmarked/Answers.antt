use Rattle.std.proofs.Common.{◌∙◌, [], ap, arith, false, get_or, take_all}
use Rattle.std.specs.Prelude.{filter}
use Rattle.xet_base.specs.declared.merklehash.MerkleHash.{MerkleHash}
use Rattle.xet_audit.proofs.Lists.{self_at}
use Rattle.xet_audit.proofs.Unnamed.{unmarked_more, unseen}
use Rattle.xet_audit.proofs.spare.unmarked.Goals as goal

-- the default of a read
abbrev no_hash : MerkleHash
no_hash = record { 0 = [] }

pub loop-n-preserved : goal.loop-n-preserved
loop-n-preserved c = λ seen is.
    let l = c.loop-n in
    unmarked_more c.args.hashes.now seen l.left.items c.add_unless.new.left.items c.args.marks.now l.n (get_or c.args.hashes.now l.n no_hash)
    (get_or c.args.marks.now l.n false) is c.loop-n-test.true (self_at c.args.marks.now l.n false (omega (arith, c.requires, c.loop-n-test.true)))
    (self_at c.args.hashes.now l.n no_hash c.loop-n-test.true) (l.invariant seen is) c.in_ok-add_unless.ensures

pub returns : goal.returns
returns c = λ seen is. c.loop-n.invariant seen is ∙ ap (filter (unseen seen)) (take_all c.loop-n.n c.args.hashes.now c.loop-n-test.false)
