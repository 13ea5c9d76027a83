use Rattle.std.proofs.Common.{true, length, subst, sym, Option, Ok, Err}
use Rattle.std.specs.Prelude.{map}
use Rattle.std.proofs.lemmas.List.{length-map}
use Rattle.xet_error.specs.declared.error.FileReconstructionError.{FileReconstructionError}
use Rattle.xet_leader.specs.Led.{setup_of_job}
use Rattle.xet_stream_rules.specs.Streams.{IsAtEnd, IsOpen, StreamView}
use Rattle.xet_streams.specs.Parts.{limits_told}
use Rattle.xet_streams.specs.steps.Pulling.{IsUnrefused, StepPull}
use Rattle.xet_streams.proofs.Ending.{can_begin, some_clients}
use Rattle.xet_streams.proofs.PullWays.{step_running, stepped_err, stepped_holds, stepped_ok, stepped_some}
use Rattle.xet_streams.proofs.stepper.Stepper.step.Goals as goal

pub step_over-answer-requires-clause-some : goal.step_over-answer-requires-clause-some
step_over-answer-requires-clause-some g c = some_clients c.args.self.now (length c.args.clients.now)
    c.requires.unrefused c.requires.before

pub step_over-answer-requires-clause-first : goal.step_over-answer-requires-clause-first
step_over-answer-requires-clause-first g c none =
    let i = c.self.inside in
    let v : StreamView = record {
      setup = setup_of_job i.job;
      events = i.core;
      led = i.leader;
      limits = limits_told i.limits.book i.limits.limit;
      told_error = i.told_error;
      cancelled = i.cancelled;
      seen = i.flag.seen;
      pulled = i.pulled;
    } in
    let open_v : IsOpen v = subst IsOpen (sym c.self.view_is) c.requires.open in
    let holds = c.self.invariant open_v.untold in
    let unrefused : IsUnrefused v (length (map g.C.Client.told c.args.clients.now)) =
    subst (λ (z : StreamView). IsUnrefused z (length (map g.C.Client.told c.args.clients.now))) (sym c.self.view_is)
    (subst (IsUnrefused c.args.self.now) (sym (length-map c.args.clients.now g.C.Client.told)) c.requires.unrefused) in
    let before = subst (λ (z : StreamView). IsAtEnd z.setup.range z.events → ⊥) (sym c.self.view_is) c.requires.before in
    can_begin v i.reached holds.led holds.begun open_v (map g.C.Client.told c.args.clients.now) unrefused before none

pub invariant_of-self : goal.invariant_of-self
invariant_of-self g c untold =
    let i = c.self.inside in
    let v : StreamView = record {
      setup = setup_of_job i.job;
      events = i.core;
      led = i.leader;
      limits = limits_told i.limits.book i.limits.limit;
      told_error = i.told_error;
      cancelled = i.cancelled;
      seen = i.flag.seen;
      pulled = i.pulled;
    } in
    let open_v : IsOpen v = subst IsOpen (sym c.self.view_is) c.requires.open in
    let holds = c.self.invariant open_v.untold in
    let some = stepped_some v open_v i.reached c.step_over-answer.new.reached holds.led c.step_over-answer.new.core
    c.step_over-answer.new.leader (map g.C.Client.told c.args.clients.now)
    (map g.C.Client.told c.step_over-answer.new.clients) (g.K.ChunkCache.told c.args.cache.now)
    (g.K.ChunkCache.told c.step_over-answer.new.cache)
    (limits_told c.step_over-answer.new.source.book c.step_over-answer.new.source.limit) c.in-Ok.answer
    c.in-Ok.ensures.over in
    record {
      led = stepped_holds v open_v i.reached c.step_over-answer.new.reached holds.led c.step_over-answer.new.core
          c.step_over-answer.new.leader (map g.C.Client.told c.args.clients.now)
          (map g.C.Client.told c.step_over-answer.new.clients) (g.K.ChunkCache.told c.args.cache.now)
          (g.K.ChunkCache.told c.step_over-answer.new.cache)
          (limits_told c.step_over-answer.new.source.book c.step_over-answer.new.source.limit) c.in-Ok.answer c.in-Ok.ensures.over;
      begun = λ none. absurd (some none);
      order_held = λ none. absurd (some none);
    }

pub tell-told-requires : goal.tell-told-requires
tell-told-requires g c =
    let i = c.self.inside in
    let v : StreamView = record {
      setup = setup_of_job i.job;
      events = i.core;
      led = i.leader;
      limits = limits_told i.limits.book i.limits.limit;
      told_error = i.told_error;
      cancelled = i.cancelled;
      seen = i.flag.seen;
      pulled = i.pulled;
    } in
    let open_v : IsOpen v = subst IsOpen (sym c.self.view_is) c.requires.open in
    let holds = c.self.invariant open_v.untold in
    step_running v open_v i.reached c.step_over-answer.new.reached holds.led c.step_over-answer.new.core
    c.step_over-answer.new.leader (map g.C.Client.told c.args.clients.now)
    (map g.C.Client.told c.step_over-answer.new.clients) (g.K.ChunkCache.told c.args.cache.now)
    (g.K.ChunkCache.told c.step_over-answer.new.cache)
    (limits_told c.step_over-answer.new.source.book c.step_over-answer.new.source.limit) c.in-Err.error
    c.in-Err.ensures.over

pub returns-in-Ok-clause-pull : goal.returns-in-Ok-clause-pull
returns-in-Ok-clause-pull g c =
    let i = c.self.inside in
    let v : StreamView = record {
      setup = setup_of_job i.job;
      events = i.core;
      led = i.leader;
      limits = limits_told i.limits.book i.limits.limit;
      told_error = i.told_error;
      cancelled = i.cancelled;
      seen = i.flag.seen;
      pulled = i.pulled;
    } in
    let open_v : IsOpen v = subst IsOpen (sym c.self.view_is) c.requires.open in
    let holds = c.self.invariant open_v.untold in
    subst (λ (z : StreamView). StepPull z (record v {
      events = c.step_over-answer.new.core;
      led = c.step_over-answer.new.leader;
      limits = limits_told c.step_over-answer.new.source.book c.step_over-answer.new.source.limit;
      pulled = true;
    }) (map g.C.Client.told c.args.clients.now)
    (map g.C.Client.told c.step_over-answer.new.clients) (g.K.ChunkCache.told c.args.cache.now)
    (g.K.ChunkCache.told c.step_over-answer.new.cache) (Ok c.in-Ok.answer)) c.self.view_is
    (stepped_ok v open_v i.reached c.step_over-answer.new.reached holds.led c.step_over-answer.new.core
    c.step_over-answer.new.leader (map g.C.Client.told c.args.clients.now)
    (map g.C.Client.told c.step_over-answer.new.clients) (g.K.ChunkCache.told c.args.cache.now)
    (g.K.ChunkCache.told c.step_over-answer.new.cache)
    (limits_told c.step_over-answer.new.source.book c.step_over-answer.new.source.limit) c.in-Ok.answer
    c.in-Ok.ensures.over c.check_history.ensures)

pub returns-in-Err-clause-pull : goal.returns-in-Err-clause-pull
returns-in-Err-clause-pull g c =
    let i = c.self.inside in
    let v : StreamView = record {
      setup = setup_of_job i.job;
      events = i.core;
      led = i.leader;
      limits = limits_told i.limits.book i.limits.limit;
      told_error = i.told_error;
      cancelled = i.cancelled;
      seen = i.flag.seen;
      pulled = i.pulled;
    } in
    let open_v : IsOpen v = subst IsOpen (sym c.self.view_is) c.requires.open in
    let holds = c.self.invariant open_v.untold in
    subst (λ (z : StreamView). StepPull z (record v {
      events = c.tell-told.new.core;
      led = c.step_over-answer.new.leader;
      limits = limits_told c.step_over-answer.new.source.book c.step_over-answer.new.source.limit;
      told_error = c.tell-told.new.told_error;
      pulled = true;
    }) (map g.C.Client.told c.args.clients.now)
    (map g.C.Client.told c.step_over-answer.new.clients) (g.K.ChunkCache.told c.args.cache.now)
    (g.K.ChunkCache.told c.step_over-answer.new.cache) (Err c.tell-told.result)) c.self.view_is
    (subst (λ (o : Option FileReconstructionError). StepPull v (record v {
      events = c.tell-told.new.core;
      led = c.step_over-answer.new.leader;
      limits = limits_told c.step_over-answer.new.source.book c.step_over-answer.new.source.limit;
      told_error = o;
      pulled = true;
    }) (map g.C.Client.told c.args.clients.now) (map g.C.Client.told c.step_over-answer.new.clients)
    (g.K.ChunkCache.told c.args.cache.now) (g.K.ChunkCache.told c.step_over-answer.new.cache) (Err c.tell-told.result))
    (sym c.tell-told.ensures.told)
    (stepped_err v open_v i.reached c.step_over-answer.new.reached holds.led c.step_over-answer.new.core
    c.step_over-answer.new.leader (map g.C.Client.told c.args.clients.now)
    (map g.C.Client.told c.step_over-answer.new.clients) (g.K.ChunkCache.told c.args.cache.now)
    (g.K.ChunkCache.told c.step_over-answer.new.cache)
    (limits_told c.step_over-answer.new.source.book c.step_over-answer.new.source.limit) c.in-Err.error
    c.in-Err.ensures.over c.tell-told.new.core c.tell-told.result c.tell-told.ensures.stopped
    c.check_history-in-Err.ensures))
