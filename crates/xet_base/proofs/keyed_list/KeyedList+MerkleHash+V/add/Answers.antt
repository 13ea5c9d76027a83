use Rattle.std.proofs.Common.{◌∙◌}
use Rattle.xet_base.specs.Hashes.{hash_eq}
use Rattle.xet_base.proofs.Compares.{position-key_cmp}
use Rattle.xet_base.proofs.Lookups.{position_none-find}
use Rattle.xet_base.proofs.keyed_list.KeyedList+MerkleHash+V.add.Goals as goal

pub push-requires : goal.push-requires
push-requires g c =
    let key = g.V.Keyed.key_of in
    position-key_cmp key c.args.self.now (key c.args.value) ∙ position_none-find (λ v. hash_eq (key v) (key c.args.value)) c.args.self.now c.requires
