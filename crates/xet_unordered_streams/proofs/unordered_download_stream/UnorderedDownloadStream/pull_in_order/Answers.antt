use Rattle.std.proofs.Common.{subst, sym}
use Rattle.std.specs.Prelude.{map}
use Rattle.xet_stream_rules.specs.Streams.{MayGoOn}
use Rattle.xet_stream_rules.specs.Unordered.{UnorderedView}
use Rattle.xet_unordered_streams.specs.Items.{AfterStep}
use Rattle.xet_unordered_streams.specs.steps.Giving.{KeepsOn}
use Rattle.xet_unordered_streams.proofs.Steps.{in_order_error, in_order_ready, in_order_step, pending_pull}
use Rattle.xet_unordered_streams.proofs.unordered_download_stream.UnorderedDownloadStream.pull_in_order.Goals as goal

pub after_step-requires : goal.after_step-requires
after_step-requires g c =
    subst (λ (z : UnorderedView). MayGoOn z.stream) (sym c.mark_late.ensures) (pending_pull c.args.self.now c.pull.new.self (map g.C.Client.told c.args.clients.now)
    (map g.C.Client.told c.pull.new.clients) (g.K.ChunkCache.told c.args.cache.now)
    (g.K.ChunkCache.told c.pull.new.cache) (rw c.in-Ok-Pending.field-0-is at c.in-Ok-Pending.ensures)).goes_on

pub returns-in-Ok-Ready : goal.returns-in-Ok-Ready
returns-in-Ok-Ready g c = in_order_ready c.args.self.now c.pull.new.self (map g.C.Client.told c.args.clients.now)
    (map g.C.Client.told c.pull.new.clients) (g.K.ChunkCache.told c.args.cache.now)
    (g.K.ChunkCache.told c.pull.new.cache) c.in-Ok-Ready.item (rw c.in-Ok-Ready.field-0-is at c.in-Ok-Ready.ensures)

pub returns-in-Ok-Pending : goal.returns-in-Ok-Pending
returns-in-Ok-Pending g c = in_order_step c.args.self.now c.pull.new.self c.after_step.new.self
    (map g.C.Client.told c.args.clients.now) (map g.C.Client.told c.pull.new.clients)
    (g.K.ChunkCache.told c.args.cache.now) (g.K.ChunkCache.told c.pull.new.cache) c.after_step.result
    (pending_pull c.args.self.now c.pull.new.self (map g.C.Client.told c.args.clients.now)
    (map g.C.Client.told c.pull.new.clients) (g.K.ChunkCache.told c.args.cache.now)
    (g.K.ChunkCache.told c.pull.new.cache) (rw c.in-Ok-Pending.field-0-is at c.in-Ok-Pending.ensures))
    (subst (λ (z : UnorderedView). AfterStep z c.after_step.new.self c.after_step.result) c.mark_late.ensures
    c.after_step.ensures.after)
    (subst (λ (z : UnorderedView). KeepsOn z c.after_step.new.self) c.mark_late.ensures c.after_step.ensures.stands)

pub returns-in-Err : goal.returns-in-Err
returns-in-Err g c = in_order_error c.args.self.now c.pull.new.self (map g.C.Client.told c.args.clients.now)
    (map g.C.Client.told c.pull.new.clients) (g.K.ChunkCache.told c.args.cache.now)
    (g.K.ChunkCache.told c.pull.new.cache) c.in-Err.error c.in-Err.ensures
