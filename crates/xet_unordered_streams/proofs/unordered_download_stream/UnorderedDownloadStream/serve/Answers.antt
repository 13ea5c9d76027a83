use Rattle.std.specs.Prelude.{map}
use Rattle.xet_unordered_streams.proofs.Steps.{served, served_vain}
use Rattle.xet_unordered_streams.proofs.unordered_download_stream.UnorderedDownloadStream.serve.Goals as goal

pub after_step-requires : goal.after_step-requires
after_step-requires g c = c.in-Ok.ensures.2

pub returns-in-Ok : goal.returns-in-Ok
returns-in-Ok g c = served c.args.self.now c.provide.new.self c.after_step.new.self
    (map g.C.Client.told c.args.clients.now) (map g.C.Client.told c.provide.new.clients)
    (g.K.ChunkCache.told c.args.cache.now) (g.K.ChunkCache.told c.provide.new.cache) c.after_step.result
    c.in-Ok.ensures c.after_step.ensures.after c.after_step.ensures.stands

pub returns-in-Err : goal.returns-in-Err
returns-in-Err g c = served_vain c.args.self.now c.provide.new.self (map g.C.Client.told c.args.clients.now)
    (map g.C.Client.told c.provide.new.clients) (g.K.ChunkCache.told c.args.cache.now)
    (g.K.ChunkCache.told c.provide.new.cache) c.in-Err.error c.in-Err.ensures
