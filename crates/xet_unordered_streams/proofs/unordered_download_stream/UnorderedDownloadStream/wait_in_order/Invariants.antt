use Rattle.std.specs.Prelude.{map}
use Rattle.xet_stream_rules.specs.Streams.{waits_left}
use Rattle.xet_unordered_streams.specs.steps.Pulling.{IsFreeCaught}
use Rattle.xet_unordered_streams.specs.steps.Waiting.{ItemsSoFar}
use Rattle.xet_unordered_streams.proofs.unordered_download_stream.UnorderedDownloadStream.wait_in_order.Given as goal

-- the pulls so far weren't there yet
abbrev pub invariant-wait : goal.invariant-wait
invariant-wait g l =
    ItemsSoFar l.fn.self l.self (map g.C.Client.told l.fn.clients) (map g.C.Client.told l.clients)
    (g.K.ChunkCache.told l.fn.cache) (g.K.ChunkCache.told l.cache) × IsFreeCaught l.self

-- how many more of them there may be
abbrev pub decreases-wait : goal.decreases-wait
decreases-wait g l = waits_left l.self.stream
