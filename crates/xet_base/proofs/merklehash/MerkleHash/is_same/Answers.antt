use Rattle.std.proofs.Common.{◌∙◌, ap, sym}
use Rattle.std.specs.Ordering.{is_eq}
use Rattle.xet_base.specs.contracts.merklehash.MerkleHashOrd.TheImpl.Laws.{matches_eq-law}
use Rattle.xet_base.proofs.merklehash.MerkleHash.is_same.Goals as goal

pub returns : goal.returns
returns c = c.is_eq.ensures ∙ ap is_eq c.cmp.ensures ∙ sym (matches_eq-law c.args.self.now c.args.other.now)
