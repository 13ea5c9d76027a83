use Rattle.std.proofs.Common.{◌∙◌}
use Rattle.xet_base.proofs.Compares.{position-key_cmp}
use Rattle.xet_base.proofs.keyed_list.KeyedList+MerkleHash+V.number_of.Goals as goal

pub returns : goal.returns
returns g c = c.position.ensures ∙ position-key_cmp g.V.Keyed.key_of c.args.self.now c.args.hash.now
