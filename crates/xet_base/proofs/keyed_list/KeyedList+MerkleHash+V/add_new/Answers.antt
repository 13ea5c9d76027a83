use Rattle.xet_base.specs.Hashes.{hash_eq}
use Rattle.xet_base.proofs.Compares.{position-key_cmp}
use Rattle.xet_base.proofs.Lookups.{none_alike}
use Rattle.xet_base.proofs.keyed_list.KeyedList+MerkleHash+V.add_new.Goals as goal

pub returns-clause-new : goal.returns-clause-new
returns-clause-new g c =
    let key = g.V.Keyed.key_of in
    rw (← none_alike (λ v. hash_eq (key v) (key c.args.value)) c.args.self.now, ← position-key_cmp key c.args.self.now (key c.args.value)) c.push_new.ensures.new
