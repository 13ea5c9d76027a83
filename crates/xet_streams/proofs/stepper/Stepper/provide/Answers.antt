use Rattle.std.proofs.Common.{◌≡◌, subst, sym, ◌∙◌, ap, Option, None, Ok, Err}
use Rattle.std.specs.Prelude.{map}
use Rattle.xet_error.specs.declared.error.FileReconstructionError.{FileReconstructionError}
use Rattle.xet_events.specs.Allowed.{IsMissing}
use Rattle.xet_leader.specs.Led.{setup_of_job}
use Rattle.xet_stream_rules.specs.Streams.{IsOpen, StreamView}
use Rattle.xet_streams.specs.Parts.{limits_told}
use Rattle.xet_streams.specs.AnyOrder.{ProvideCall}
use Rattle.xet_streams.proofs.AnyBlocks.{provided_call, provided_held, provided_some, provided_vain, vain_run}
use Rattle.xet_streams.proofs.Pulled.{held_carries}
use Rattle.xet_streams.proofs.stepper.Stepper.provide.Goals as goal

pub provides_over-requires-clause-led : goal.provides_over-requires-clause-led
provides_over-requires-clause-led g c =
    subst (λ (z : StreamView). z.led ≡ None → ⊥) (sym c.self.view_is) c.requires.led

pub provides_over-requires-clause-held : goal.provides_over-requires-clause-held
provides_over-requires-clause-held g c =
    let i = c.self.inside in
    let holds = c.self.invariant (ap (λ (v : StreamView). v.told_error) c.self.view_is ∙ c.requires.still.untold) in
    held_carries (setup_of_job i.job) i.core i.leader i.reached holds.led

pub provides_over-requires-clause-missing : goal.provides_over-requires-clause-missing
provides_over-requires-clause-missing g c =
    subst (λ (z : StreamView). IsMissing z.events c.args.place.plan c.args.place.block) (sym c.self.view_is)
    c.requires.missing

pub tell-requires : goal.tell-requires
tell-requires g c =
    let i = c.self.inside in
    let v : StreamView = record {
      setup = setup_of_job i.job;
      events = i.core;
      led = i.leader;
      limits = limits_told i.limits.book i.limits.limit;
      told_error = i.told_error;
      cancelled = i.cancelled;
      seen = i.flag.seen;
      pulled = i.pulled;
    } in
    let open_v : IsOpen v = subst IsOpen (sym c.self.view_is) c.requires.still in
    let holds = c.self.invariant open_v.untold in
    vain_run v open_v i.reached holds.led _ _ _ _ _ _ _ c.in-Err.error c.in-Err.ensures

pub invariant_of-self : goal.invariant_of-self
invariant_of-self g c untold =
    let i = c.self.inside in
    let v : StreamView = record {
      setup = setup_of_job i.job;
      events = i.core;
      led = i.leader;
      limits = limits_told i.limits.book i.limits.limit;
      told_error = i.told_error;
      cancelled = i.cancelled;
      seen = i.flag.seen;
      pulled = i.pulled;
    } in
    let open_v : IsOpen v = subst IsOpen (sym c.self.view_is) c.requires.still in
    let holds = c.self.invariant open_v.untold in
    record {
      led = provided_held v open_v i.reached holds.led _ _ _ _ _ _ _ c.in-Ok.ensures;
      begun = λ none. absurd (provided_some _ _ _ _ _ _ _ _ _ _ _ c.in-Ok.ensures none);
      order_held = λ none. absurd (provided_some _ _ _ _ _ _ _ _ _ _ _ c.in-Ok.ensures none);
    }

pub returns-in-Ok : goal.returns-in-Ok
returns-in-Ok g c =
    let i = c.self.inside in
    let v : StreamView = record {
      setup = setup_of_job i.job;
      events = i.core;
      led = i.leader;
      limits = limits_told i.limits.book i.limits.limit;
      told_error = i.told_error;
      cancelled = i.cancelled;
      seen = i.flag.seen;
      pulled = i.pulled;
    } in
    let open_v : IsOpen v = subst IsOpen (sym c.self.view_is) c.requires.still in
    let holds = c.self.invariant open_v.untold in
    subst (λ (z : StreamView). ProvideCall z (record v {
      events = c.provides_over.new.core;
      led = c.provides_over.new.leader;
    }) (map g.C.Client.told c.args.clients.now) (map g.C.Client.told c.provides_over.new.clients)
    (g.K.ChunkCache.told c.args.cache.now) (g.K.ChunkCache.told c.provides_over.new.cache) (Ok tt)) c.self.view_is
    (provided_call v open_v i.reached holds.led c.provides_over.new.core c.provides_over.new.leader _ _ _ _
    c.args.place c.in-Ok.ensures
    (subst (λ (z : StreamView). IsMissing z.events c.args.place.plan c.args.place.block) (sym c.self.view_is)
    c.requires.missing).absent)

pub returns-in-Err : goal.returns-in-Err
returns-in-Err g c =
    let i = c.self.inside in
    let v : StreamView = record {
      setup = setup_of_job i.job;
      events = i.core;
      led = i.leader;
      limits = limits_told i.limits.book i.limits.limit;
      told_error = i.told_error;
      cancelled = i.cancelled;
      seen = i.flag.seen;
      pulled = i.pulled;
    } in
    let open_v : IsOpen v = subst IsOpen (sym c.self.view_is) c.requires.still in
    let holds = c.self.invariant open_v.untold in
    subst (λ (z : StreamView). ProvideCall z (record v {
      events = c.tell.new.core;
      led = c.provides_over.new.leader;
      told_error = c.tell.new.told_error;
    }) (map g.C.Client.told c.args.clients.now) (map g.C.Client.told c.provides_over.new.clients)
    (g.K.ChunkCache.told c.args.cache.now) (g.K.ChunkCache.told c.provides_over.new.cache) (Err c.tell.result))
    c.self.view_is
    (subst (λ (o : Option FileReconstructionError). ProvideCall v (record v {
      events = c.tell.new.core;
      led = c.provides_over.new.leader;
      told_error = o;
    }) (map g.C.Client.told c.args.clients.now) (map g.C.Client.told c.provides_over.new.clients)
    (g.K.ChunkCache.told c.args.cache.now) (g.K.ChunkCache.told c.provides_over.new.cache) (Err c.tell.result))
    (sym c.tell.ensures.told)
    (provided_vain v open_v i.reached holds.led c.provides_over.new.core c.provides_over.new.leader _ _ _ _
    c.args.place c.in-Err.error c.in-Err.ensures c.tell.new.core c.tell.result c.tell.ensures.stopped))
