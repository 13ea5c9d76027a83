use Rattle.std.proofs.Common.{rules}
use Rattle.xet_store.proofs.MapCaches.{got}
use Rattle.xet_store.proofs.map_cache.MapCacheChunkCache.get.Goals as goal

pub returns-clause-call : goal.returns-clause-call
returns-clause-call c =
    got c.args.self.now.entries c.args.self.now.log.looked _ c.args.self.now.offers c.args.xorb.now c.args.range c.in-Ok.found (search rules) (search rules)
