use Rattle.xet_store.proofs.MapCaches.{numbered}
use Rattle.xet_store.proofs.map_cache.MapCache.number_of.Goals as goal

pub returns : goal.returns
returns c = numbered c.args.self.now.entries c.args.key.now c.position.result c.position.ensures
