use Rattle.xet_store.proofs.GrownStores.{valid_with_new}
use Rattle.xet_store.proofs.mem_store.MemStore.keep_new.Goals as goal

pub invariant_of-self-2 : goal.invariant_of-self-2
invariant_of-self-2 c =
    valid_with_new _ c.args.xorb c.add_new.new.self c.in_ok-added.added c.self.invariant c.in_ok-added.ensures.new
    c.in_ok-added.ensures.list c.requires
