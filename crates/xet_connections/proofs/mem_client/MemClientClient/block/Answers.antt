use Rattle.std.proofs.Common.{arith, refl, rules}
use Rattle.xet_store.proofs.CallerLemmas.{honest_by}
use Rattle.xet_connections.proofs.mem_client.MemClientClient.block.Goals as goal

pub returns-clause-call : goal.returns-clause-call
returns-clause-call c = rw c.and_block-self.ensures (record {
  store = refl;
  honest = λ s e h. honest_by c.args.self.now.store.now s c.args.request.now.xorb c.args.request.now.chunks
      c.in_ok-block.block (search rules) e h;
  asked = refl;
  said = refl;
  unsaid = tt;
  served = refl;
  unserved = tt;
  faults = omega arith;
  failed = λ x. cc;
  unfailed = refl;
  expiries = omega arith;
  link = refl;
  expired = λ e. cc;
})
