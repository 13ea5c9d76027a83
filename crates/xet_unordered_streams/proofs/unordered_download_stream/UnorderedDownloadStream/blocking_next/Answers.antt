use Rattle.std.proofs.Common.{arith, refl, Err, Ok}
use Rattle.std.specs.Prelude.{map}
use Rattle.xet_stream_rules.specs.declared.step.Step.TheVariants.{Pending}
use Rattle.xet_unordered_streams.specs.Items.{ItemCall}
use Rattle.xet_unordered_streams.proofs.ItemWaiting.{item_done, item_join, item_more, none_yet}
use Rattle.xet_unordered_streams.proofs.unordered_download_stream.UnorderedDownloadStream.blocking_next.Goals as goal

pub any-init : goal.any-init
any-init g c = (
  none_yet c.args.self.now (map g.C.Client.told c.args.clients.now) (g.K.ChunkCache.told c.args.cache.now),
  λ h. absurd (omega (arith, h)),
)

pub returns-in-Ok-Ready : goal.returns-in-Ok-Ready
returns-in-Ok-Ready g c =
    let cs = g.C.Client.told in
    let k = g.K.ChunkCache.told in
    item_done c.args.self.now c.any.self c.next.new.self (map cs c.args.clients.now) (map cs c.any.clients)
    (map cs c.next.new.clients) (k c.args.cache.now) (k c.any.cache) (k c.next.new.cache)
    (Ok c.in-Ok-Ready.item) c.any.invariant.0 (rw c.in-Ok-Ready.field-0-is at c.in-Ok-Ready.ensures)

pub returns-in-Err : goal.returns-in-Err
returns-in-Err g c =
    let cs = g.C.Client.told in
    let k = g.K.ChunkCache.told in
    item_done c.args.self.now c.any.self c.next.new.self (map cs c.args.clients.now) (map cs c.any.clients)
    (map cs c.next.new.clients) (k c.args.cache.now) (k c.any.cache) (k c.next.new.cache)
    (Err c.in-Err.error) c.any.invariant.0 c.in-Err.ensures

pub any-preserved : goal.any-preserved
any-preserved g c =
    let cs = g.C.Client.told in
    let k = g.K.ChunkCache.told in
    let call : ItemCall c.any.self c.next.new.self (map cs c.any.clients) (map cs c.next.new.clients) (k c.any.cache)
    (k c.next.new.cache) (Ok Pending) = rw c.in-Ok-Pending.field-0-is at c.in-Ok-Pending.ensures in (
      item_more c.args.self.now c.any.self c.next.new.self (map cs c.args.clients.now) (map cs c.any.clients)
          (map cs c.next.new.clients) (k c.args.cache.now) (k c.any.cache) (k c.next.new.cache)
          c.any.invariant.0 call,
      λ h o. call.caught refl,
    )

pub wait_in_order-requires : goal.wait_in_order-requires
wait_in_order-requires g c = c.any.invariant.1 (omega arith)

pub returns : goal.returns
returns g c =
    let cs = g.C.Client.told in
    let k = g.K.ChunkCache.told in
    item_join c.args.self.now c.any.self c.wait_in_order.new.self (map cs c.args.clients.now) (map cs c.any.clients)
    (map cs c.wait_in_order.new.clients) (k c.args.cache.now) (k c.any.cache) (k c.wait_in_order.new.cache)
    c.wait_in_order.result c.any.invariant.0 c.wait_in_order.ensures
