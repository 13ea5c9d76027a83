use Rattle.xet_base.proofs.Compares.{position-key_cmp}
use Rattle.xet_base.proofs.key_index.KeyIndex+MerkleHash.number_or_add.Goals as goal

pub returns-clause-number : goal.returns-clause-number
returns-clause-number c = rw (← position-key_cmp (λ h. h) c.args.self.now c.args.hash) c.position_or_push.ensures.number
