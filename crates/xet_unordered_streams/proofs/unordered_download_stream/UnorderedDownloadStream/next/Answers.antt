use Rattle.std.proofs.Common.{subst, Err}
use Rattle.std.specs.Prelude.{map}
use Rattle.xet_stream_rules.specs.Unordered.{UnorderedView}
use Rattle.xet_unordered_streams.specs.Items.{ItemCall}
use Rattle.xet_unordered_streams.proofs.Steps.{pulled_item, short_item}
use Rattle.xet_unordered_streams.proofs.unordered_download_stream.UnorderedDownloadStream.next.Goals as goal

pub returns-in-Ok : goal.returns-in-Ok
returns-in-Ok g c =
    let i = c.self.inside in
    let b : UnorderedView = record { stream = i.stepper; delivered = i.delivered.items; ended = i.ended } in
    subst (λ (z : UnorderedView). ItemCall z c.go_on-answer.new.self (map g.C.Client.told c.args.clients.now)
    (map g.C.Client.told c.go_on-answer.new.clients) (g.K.ChunkCache.told c.args.cache.now)
    (g.K.ChunkCache.told c.go_on-answer.new.cache) c.go_on-answer.result) c.self.view_is
    (pulled_item b c.go_ahead.new.self c.go_on-answer.new.self
    (map g.C.Client.told c.args.clients.now) (map g.C.Client.told c.go_on-answer.new.clients)
    (g.K.ChunkCache.told c.args.cache.now) (g.K.ChunkCache.told c.go_on-answer.new.cache) c.go_on-answer.result
    c.in-Ok.ensures c.go_on-answer.ensures c.check_places.ensures.allowed c.check_places.ensures.passed)

pub returns-in-Err : goal.returns-in-Err
returns-in-Err g c =
    let i = c.self.inside in
    let b : UnorderedView = record { stream = i.stepper; delivered = i.delivered.items; ended = i.ended } in
    subst (λ (z : UnorderedView). ItemCall z c.go_ahead.new.self (map g.C.Client.told c.args.clients.now)
    (map g.C.Client.told c.args.clients.now) (g.K.ChunkCache.told c.args.cache.now)
    (g.K.ChunkCache.told c.args.cache.now) (Err c.in-Err.error)) c.self.view_is
    (short_item b c.go_ahead.new.self (map g.C.Client.told c.args.clients.now) (g.K.ChunkCache.told c.args.cache.now)
    c.in-Err.error c.in-Err.ensures c.check_places-in-Err.ensures.allowed c.check_places-in-Err.ensures.passed)
