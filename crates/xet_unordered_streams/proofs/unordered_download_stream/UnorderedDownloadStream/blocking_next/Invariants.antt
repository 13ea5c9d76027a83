use Rattle.std.specs.Prelude.{◌<◌, map}
use Rattle.xet_unordered_streams.specs.steps.Pulling.{IsFreeCaught}
use Rattle.xet_unordered_streams.specs.steps.Waiting.{ItemsSoFar}
use Rattle.xet_unordered_streams.proofs.unordered_download_stream.UnorderedDownloadStream.blocking_next.Given as goal

-- the pulls so far weren't there yet
abbrev pub invariant-any : goal.invariant-any
invariant-any g l =
    ItemsSoFar l.fn.self l.self (map g.C.Client.told l.fn.clients) (map g.C.Client.told l.clients)
    (g.K.ChunkCache.told l.fn.cache) (g.K.ChunkCache.told l.cache) × (0 < l.counter → IsFreeCaught l.self)
