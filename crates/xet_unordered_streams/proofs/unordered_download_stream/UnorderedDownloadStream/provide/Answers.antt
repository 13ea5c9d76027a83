use Rattle.std.proofs.Common.{refl, subst, sym, Ok, Err}
use Rattle.std.specs.Prelude.{length, map}
use Rattle.xet_stream_rules.specs.Unordered.{UnorderedView}
use Rattle.xet_unordered_streams.specs.steps.Pulling.{BlockCall, IsAwaitedIn, IsFreeStep}
use Rattle.xet_unordered_streams.proofs.Ordered.{awaited_missing, provided_caught, provided_goes_on, provided_placing, vain_placing}
use Rattle.xet_unordered_streams.proofs.unordered_download_stream.UnorderedDownloadStream.provide.Goals as goal

pub provide-requires-clause-still : goal.provide-requires-clause-still
provide-requires-clause-still g c =
    (subst (λ (z : UnorderedView). IsFreeStep z (length c.args.clients.now)) (sym c.self.view_is) c.requires.free).still

pub provide-requires-clause-led : goal.provide-requires-clause-led
provide-requires-clause-led g c =
    (subst (λ (z : UnorderedView). IsFreeStep z (length c.args.clients.now)) (sym c.self.view_is) c.requires.free).begun

pub provide-requires-clause-some : goal.provide-requires-clause-some
provide-requires-clause-some g c = c.requires.free.some

pub provide-requires-clause-missing : goal.provide-requires-clause-missing
provide-requires-clause-missing g c =
    let i = c.self.inside in
    awaited_missing i.stepper i.delivered.items i.early i.ended c.args.place c.self.invariant
    (subst (λ (z : UnorderedView). IsFreeStep z (length c.args.clients.now)) (sym c.self.view_is) c.requires.free).still
    (subst (λ (z : UnorderedView). IsAwaitedIn z c.args.place) (sym c.self.view_is) c.requires.awaited)

pub invariant_of-self : goal.invariant_of-self
invariant_of-self g c =
    let i = c.self.inside in
    provided_placing i.stepper c.provide.new.self i.delivered.items i.early c.self.invariant
    (map g.C.Client.told c.args.clients.now) (map g.C.Client.told c.provide.new.clients)
    (g.K.ChunkCache.told c.args.cache.now) (g.K.ChunkCache.told c.provide.new.cache) c.in-Ok.ensures
    c.check_history.ensures

pub invariant_of-self-in-Err : goal.invariant_of-self-in-Err
invariant_of-self-in-Err g c =
    let i = c.self.inside in
    vain_placing i.stepper c.provide.new.self i.delivered.items i.early c.self.invariant
    (map g.C.Client.told c.args.clients.now) (map g.C.Client.told c.provide.new.clients)
    (g.K.ChunkCache.told c.args.cache.now) (g.K.ChunkCache.told c.provide.new.cache) c.in-Err.error c.in-Err.ensures.0
    c.in-Err.ensures.1 c.check_history-in-Err.ensures

pub returns-in-Ok : goal.returns-in-Ok
returns-in-Ok g c =
    let i = c.self.inside in
    let cs = map g.C.Client.told c.args.clients.now in
    let ds = map g.C.Client.told c.provide.new.clients in
    let k = g.K.ChunkCache.told c.args.cache.now in
    let l = g.K.ChunkCache.told c.provide.new.cache in
    let n : UnorderedView = record {
      stream = c.provide.new.self;
      delivered = i.delivered.items;
      ended = i.ended;
    } in
    let free = subst (λ (z : UnorderedView). IsFreeStep z (length c.args.clients.now)) (sym c.self.view_is) c.requires.free in
    subst (λ (z : UnorderedView). BlockCall z n cs ds k l (Ok tt)) c.self.view_is (
      c.in-Ok.ensures,
      refl,
      provided_goes_on i.stepper c.provide.new.self i.delivered.items i.early i.ended c.args.place c.self.invariant cs ds
          k l c.in-Ok.ensures free.still
          (subst (λ (z : UnorderedView). IsAwaitedIn z c.args.place) (sym c.self.view_is) c.requires.awaited),
      provided_caught i.stepper c.provide.new.self i.delivered.items i.early i.ended c.self.invariant cs ds k l
          c.in-Ok.ensures c.check_history.ensures free.caught,
    )

pub returns-in-Err : goal.returns-in-Err
returns-in-Err g c =
    let i = c.self.inside in
    let n : UnorderedView = record {
      stream = c.provide.new.self;
      delivered = i.delivered.items;
      ended = i.ended;
    } in
    subst (λ (z : UnorderedView). BlockCall z n (map g.C.Client.told c.args.clients.now)
    (map g.C.Client.told c.provide.new.clients) (g.K.ChunkCache.told c.args.cache.now)
    (g.K.ChunkCache.told c.provide.new.cache) (Err c.in-Err.error)) c.self.view_is
    (c.in-Err.ensures.0, c.in-Err.ensures.1, refl)
