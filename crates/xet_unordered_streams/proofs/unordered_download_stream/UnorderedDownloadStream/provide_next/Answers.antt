use Rattle.std.proofs.Common.{inl, inr, sym, subst}
use Rattle.std.specs.Prelude.{length, map}
use Rattle.xet_stream_rules.specs.Unordered.{UnorderedView}
use Rattle.xet_unordered_streams.specs.steps.Pulling.{FreeStep, IsAwaitedIn, IsFreeStep}
use Rattle.xet_unordered_streams.proofs.unordered_download_stream.UnorderedDownloadStream.provide_next.Goals as goal

pub pull_in_order-requires : goal.pull_in_order-requires
pull_in_order-requires g c still =
    (subst (λ (z : UnorderedView). IsFreeStep z (length c.args.clients.now)) (sym c.in-None.ensures.same) c.requires).caught

pub serve-requires-clause-free : goal.serve-requires-clause-free
serve-requires-clause-free g c = subst (λ (z : UnorderedView). IsFreeStep z (length c.args.clients.now)) (sym c.in-Some.ensures.same) c.requires

pub serve-requires-clause-awaited : goal.serve-requires-clause-awaited
serve-requires-clause-awaited g c =
    subst (λ (z : UnorderedView). IsAwaitedIn z c.in-Some.place) (sym c.in-Some.ensures.same) c.in-Some.ensures.place

pub returns-in-Some : goal.returns-in-Some
returns-in-Some g c =
    subst (λ (z : UnorderedView). FreeStep z c.serve.new.self (map g.C.Client.told c.args.clients.now)
    (map g.C.Client.told c.serve.new.clients) (g.K.ChunkCache.told c.args.cache.now)
    (g.K.ChunkCache.told c.serve.new.cache) c.serve.result) c.in-Some.ensures.same (inl c.serve.ensures)

pub returns-in-None : goal.returns-in-None
returns-in-None g c =
    subst (λ (z : UnorderedView). FreeStep z c.pull_in_order.new.self (map g.C.Client.told c.args.clients.now)
    (map g.C.Client.told c.pull_in_order.new.clients) (g.K.ChunkCache.told c.args.cache.now)
    (g.K.ChunkCache.told c.pull_in_order.new.cache) c.pull_in_order.result) c.in-None.ensures.same
    (inr c.pull_in_order.ensures)
