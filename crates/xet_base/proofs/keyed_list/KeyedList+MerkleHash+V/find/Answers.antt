use Rattle.std.proofs.Common.{◌∙◌}
use Rattle.xet_base.proofs.Compares.{find-key_cmp}
use Rattle.xet_base.proofs.keyed_list.KeyedList+MerkleHash+V.find.Goals as goal

pub returns : goal.returns
returns g c = c.get.ensures ∙ find-key_cmp g.V.Keyed.key_of c.args.self.now c.args.hash.now
