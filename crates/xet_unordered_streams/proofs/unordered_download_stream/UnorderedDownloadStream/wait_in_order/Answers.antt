use Rattle.std.proofs.Common.{refl, Err, Ok}
use Rattle.std.specs.Prelude.{map}
use Rattle.xet_stream_rules.specs.declared.step.Step.TheVariants.{Pending}
use Rattle.xet_unordered_streams.specs.Items.{ItemCall}
use Rattle.xet_unordered_streams.proofs.ItemWaiting.{item_done, item_more, none_yet}
use Rattle.xet_unordered_streams.proofs.unordered_download_stream.UnorderedDownloadStream.wait_in_order.Goals as goal

pub wait-init : goal.wait-init
wait-init g c =
    (none_yet c.args.self.now (map g.C.Client.told c.args.clients.now) (g.K.ChunkCache.told c.args.cache.now), c.requires)

pub returns-in-Ok-Ready : goal.returns-in-Ok-Ready
returns-in-Ok-Ready g c =
    let cs = g.C.Client.told in
    let k = g.K.ChunkCache.told in
    item_done c.args.self.now c.wait.self c.next_in_order.new.self (map cs c.args.clients.now) (map cs c.wait.clients)
    (map cs c.next_in_order.new.clients) (k c.args.cache.now) (k c.wait.cache) (k c.next_in_order.new.cache)
    (Ok c.in-Ok-Ready.item) c.wait.invariant.0 (rw c.in-Ok-Ready.field-0-is at c.in-Ok-Ready.ensures.call)

pub wait-preserved : goal.wait-preserved
wait-preserved g c =
    let cs = g.C.Client.told in
    let k = g.K.ChunkCache.told in
    let call : ItemCall c.wait.self c.next_in_order.new.self (map cs c.wait.clients) (map cs c.next_in_order.new.clients) (k c.wait.cache)
    (k c.next_in_order.new.cache) (Ok Pending) = rw c.in-Ok-Pending.field-0-is at c.in-Ok-Pending.ensures.call in (
      item_more c.args.self.now c.wait.self c.next_in_order.new.self (map cs c.args.clients.now) (map cs c.wait.clients)
          (map cs c.next_in_order.new.clients) (k c.args.cache.now) (k c.wait.cache) (k c.next_in_order.new.cache)
          c.wait.invariant.0 call,
      λ o. call.caught refl,
    )

pub returns-in-Err : goal.returns-in-Err
returns-in-Err g c =
    let cs = g.C.Client.told in
    let k = g.K.ChunkCache.told in
    item_done c.args.self.now c.wait.self c.next_in_order.new.self (map cs c.args.clients.now) (map cs c.wait.clients)
    (map cs c.next_in_order.new.clients) (k c.args.cache.now) (k c.wait.cache) (k c.next_in_order.new.cache)
    (Err c.in-Err.error) c.wait.invariant.0 c.in-Err.ensures.call
