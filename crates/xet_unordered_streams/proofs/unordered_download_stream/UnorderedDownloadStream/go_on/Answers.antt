use Rattle.std.proofs.Common.{◌∙◌, refl, subst, sym, false, Some}
use Rattle.std.specs.Prelude.{length, map}
use Rattle.std.proofs.lemmas.List.{length-map}
use Rattle.xet_stream_rules.specs.Streams.{IsOpen}
use Rattle.xet_stream_rules.specs.Unordered.{UnorderedView}
use Rattle.xet_unordered_streams.specs.steps.Giving.{KeepsOn, KnownCall}
use Rattle.xet_unordered_streams.specs.steps.Pulling.{FreeStep, IsFreeStep, MayStepCall}
use Rattle.xet_unordered_streams.proofs.Steps.{free_asked, free_step, goes_free, goes_in_order, goes_now}
use Rattle.xet_unordered_streams.proofs.unordered_download_stream.UnorderedDownloadStream.go_on.Goals as goal

pub pull_in_order-requires : goal.pull_in_order-requires
pull_in_order-requires g c = free_asked c.args.self.now c.may_step.new.self (length c.args.clients.now) false
    (subst (MayStepCall c.args.self.now c.may_step.new.self (length c.args.clients.now)) c.if-not-may_step.true
    c.may_step.ensures) c.requires

pub returns-then-not-may_step : goal.returns-then-not-may_step
returns-then-not-may_step g c =
    goes_in_order c.args.self.now c.may_step.new.self c.pull_in_order.new.self
    (map g.C.Client.told c.args.clients.now) (map g.C.Client.told c.pull_in_order.new.clients)
    (g.K.ChunkCache.told c.args.cache.now) (g.K.ChunkCache.told c.pull_in_order.new.cache) c.pull_in_order.result
    (subst (λ n. MayStepCall c.args.self.now c.may_step.new.self n false)
    (sym (length-map c.args.clients.now g.C.Client.told))
    (subst (MayStepCall c.args.self.now c.may_step.new.self (length c.args.clients.now)) c.if-not-may_step.true
    c.may_step.ensures)) c.pull_in_order.ensures

pub give_known-requires : goal.give_known-requires
give_known-requires g c =
    subst (λ (z : UnorderedView). IsOpen z.stream) (sym c.note.ensures)
    (free_step c.args.self.now c.may_step.new.self (length c.args.clients.now)
    (subst (MayStepCall c.args.self.now c.may_step.new.self (length c.args.clients.now)) c.if-not-may_step.false
    c.may_step.ensures) c.requires).still

pub provide_next-requires : goal.provide_next-requires
provide_next-requires g c =
    subst (λ (z : UnorderedView). IsFreeStep z (length c.args.clients.now)) (sym (c.in-None.ensures.known ∙ c.note.ensures))
    (free_step c.args.self.now c.may_step.new.self (length c.args.clients.now)
    (subst (MayStepCall c.args.self.now c.may_step.new.self (length c.args.clients.now)) c.if-not-may_step.false
    c.may_step.ensures) c.requires)

pub returns-in-Some : goal.returns-in-Some
returns-in-Some g c =
    goes_now c.args.self.now c.may_step.new.self c.give_known.new.self (map g.C.Client.told c.args.clients.now)
    (map g.C.Client.told c.args.clients.now) (g.K.ChunkCache.told c.args.cache.now)
    (g.K.ChunkCache.told c.args.cache.now) c.in-Some.answer (length c.args.clients.now)
    (length-map c.args.clients.now g.C.Client.told)
    (subst (MayStepCall c.args.self.now c.may_step.new.self (length c.args.clients.now)) c.if-not-may_step.false
    c.may_step.ensures) refl refl
    (subst (λ (z : UnorderedView). KnownCall z c.give_known.new.self (Some c.in-Some.answer)) c.note.ensures
    c.in-Some.ensures.known)
    (subst (λ (z : UnorderedView). KeepsOn z c.give_known.new.self) c.note.ensures c.in-Some.ensures.stands)

pub returns-in-None : goal.returns-in-None
returns-in-None g c =
    goes_free c.args.self.now c.may_step.new.self c.provide_next.new.self (map g.C.Client.told c.args.clients.now)
    (map g.C.Client.told c.provide_next.new.clients) (g.K.ChunkCache.told c.args.cache.now)
    (g.K.ChunkCache.told c.provide_next.new.cache) c.provide_next.result (length c.args.clients.now)
    (length-map c.args.clients.now g.C.Client.told)
    (subst (MayStepCall c.args.self.now c.may_step.new.self (length c.args.clients.now)) c.if-not-may_step.false
    c.may_step.ensures)
    (subst (λ (z : UnorderedView). FreeStep z c.provide_next.new.self (map g.C.Client.told c.args.clients.now)
    (map g.C.Client.told c.provide_next.new.clients) (g.K.ChunkCache.told c.args.cache.now)
    (g.K.ChunkCache.told c.provide_next.new.cache) c.provide_next.result)
    (c.in-None.ensures.known ∙ c.note.ensures) c.provide_next.ensures)
