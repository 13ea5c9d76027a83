use Rattle.std.specs.Prelude.{map}
use Rattle.xet_unordered_streams.proofs.ItemWaiting.{in_order_next}
use Rattle.xet_unordered_streams.proofs.unordered_download_stream.UnorderedDownloadStream.next_in_order.Goals as goal

pub returns : goal.returns
returns g c =
    in_order_next c.args.self.now c.pull_in_order-answer.new.self (map g.C.Client.told c.args.clients.now)
    (map g.C.Client.told c.pull_in_order-answer.new.clients) (g.K.ChunkCache.told c.args.cache.now)
    (g.K.ChunkCache.told c.pull_in_order-answer.new.cache) c.pull_in_order-answer.result
    c.pull_in_order-answer.ensures c.check_places.ensures.allowed c.check_places.ensures.passed
