use Rattle.std.proofs.Common.{◌≡◌, ◌∙◌, ap, List, None, position}
use Rattle.xet_base.specs.declared.merklehash.MerkleHash.{MerkleHash}
use Rattle.xet_base.specs.Hashes.{hash_eq}
use Rattle.xet_compact.proofs.Placed.{hash_absent}
use Rattle.xet_compact.proofs.reaches.index_of.Goals as goal

pub add-requires : goal.add-requires
add-requires c =
    let x = c.xorb-item.result in
    ap (λ (hs : List MerkleHash). position (λ y. hash_eq y x.hash) hs) c.loop-xorb.invariant
    ∙ hash_absent c.args.xorbs.now c.loop-xorb.xorb-index x c.requires c.loop-xorb-test.true c.xorb-item.is
