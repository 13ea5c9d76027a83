use Rattle.std.proofs.Common.{subst, sym, ◌∙◌, ap, refl, Option, Ok, Err}
use Rattle.xet_error.specs.declared.error.FileReconstructionError.{FileReconstructionError}
use Rattle.xet_error.specs.declared.error.FileReconstructionError.TheVariants as error
use Rattle.xet_leader.specs.Led.{setup_of_job}
use Rattle.xet_stream_rules.specs.Pulls.{IsTold}
use Rattle.xet_stream_rules.specs.Streams.{IsOpen, StreamView}
use Rattle.xet_streams.specs.AnyOrder.{AdmitsAheadCall, StandsOn}
use Rattle.xet_streams.specs.Parts.{limits_told}
use Rattle.xet_streams.proofs.Pulled.{held_carries}
use Rattle.xet_streams.proofs.AnyParts.{admits_ahead, admits_begun, admits_held, admits_on, vain_ahead, vain_on, vain_running, vain_told}
use Rattle.xet_streams.proofs.stepper.Stepper.admit_ahead.Goals as goal

pub admits_over-requires : goal.admits_over-requires
admits_over-requires g c =
    let i = c.self.inside in
    let holds = c.self.invariant (ap (λ (v : StreamView). v.told_error) c.self.view_is ∙ c.requires.untold) in
    held_carries (setup_of_job i.job) i.core i.leader i.reached holds.led

pub tell-requires : goal.tell-requires
tell-requires g c =
    let i = c.self.inside in
    let v : StreamView = record {
      setup = setup_of_job i.job;
      events = i.core;
      led = i.leader;
      limits = limits_told i.limits.book i.limits.limit;
      told_error = i.told_error;
      cancelled = i.cancelled;
      seen = i.flag.seen;
      pulled = i.pulled;
    } in
    let open_v : IsOpen v = subst IsOpen (sym c.self.view_is) c.requires in
    let holds = c.self.invariant open_v.untold in
    vain_running v open_v i.reached holds.led c.admits_over.new.core c.admits_over.new.leader
    (limits_told c.admits_over.new.source.book c.admits_over.new.source.limit) c.in-Err.error c.in-Err.ensures v.led refl

pub invariant_of-self : goal.invariant_of-self
invariant_of-self g c untold =
    let i = c.self.inside in
    let v : StreamView = record {
      setup = setup_of_job i.job;
      events = i.core;
      led = i.leader;
      limits = limits_told i.limits.book i.limits.limit;
      told_error = i.told_error;
      cancelled = i.cancelled;
      seen = i.flag.seen;
      pulled = i.pulled;
    } in
    let open_v : IsOpen v = subst IsOpen (sym c.self.view_is) c.requires in
    let holds = c.self.invariant open_v.untold in
    let after = limits_told c.admits_over.new.source.book c.admits_over.new.source.limit in
    record {
      led = admits_held v open_v i.reached holds.led c.admits_over.new.core c.admits_over.new.leader after
          c.in-Ok.ensures v.led refl;
      begun = λ none. holds.begun (admits_begun v open_v i.reached holds.led c.admits_over.new.core
          c.admits_over.new.leader after c.in-Ok.ensures v.led refl none);
      order_held = λ none. holds.order_held (admits_begun v open_v i.reached holds.led c.admits_over.new.core
          c.admits_over.new.leader after c.in-Ok.ensures v.led refl none);
    }

pub returns-in-Ok-clause-call : goal.returns-in-Ok-clause-call
returns-in-Ok-clause-call g c =
    let i = c.self.inside in
    let v : StreamView = record {
      setup = setup_of_job i.job;
      events = i.core;
      led = i.leader;
      limits = limits_told i.limits.book i.limits.limit;
      told_error = i.told_error;
      cancelled = i.cancelled;
      seen = i.flag.seen;
      pulled = i.pulled;
    } in
    let open_v : IsOpen v = subst IsOpen (sym c.self.view_is) c.requires in
    let holds = c.self.invariant open_v.untold in
    let after = limits_told c.admits_over.new.source.book c.admits_over.new.source.limit in
    subst (λ (z : StreamView). AdmitsAheadCall z (record v {
      events = c.admits_over.new.core;
      led = c.admits_over.new.leader;
      limits = after;
    }) (Ok tt)) c.self.view_is
    (admits_ahead v open_v i.reached holds.led c.admits_over.new.core c.admits_over.new.leader after c.in-Ok.ensures
    v.led refl)

pub returns-in-Ok-clause-stands : goal.returns-in-Ok-clause-stands
returns-in-Ok-clause-stands g c =
    let i = c.self.inside in
    let v : StreamView = record {
      setup = setup_of_job i.job;
      events = i.core;
      led = i.leader;
      limits = limits_told i.limits.book i.limits.limit;
      told_error = i.told_error;
      cancelled = i.cancelled;
      seen = i.flag.seen;
      pulled = i.pulled;
    } in
    let open_v : IsOpen v = subst IsOpen (sym c.self.view_is) c.requires in
    let holds = c.self.invariant open_v.untold in
    let after = limits_told c.admits_over.new.source.book c.admits_over.new.source.limit in
    subst (λ (z : StreamView). StandsOn z (record v {
      events = c.admits_over.new.core;
      led = c.admits_over.new.leader;
      limits = after;
    })) c.self.view_is
    (admits_on v open_v i.reached holds.led c.admits_over.new.core c.admits_over.new.leader after c.in-Ok.ensures
    v.led refl)

pub returns-in-Err-clause-call : goal.returns-in-Err-clause-call
returns-in-Err-clause-call g c =
    let i = c.self.inside in
    let v : StreamView = record {
      setup = setup_of_job i.job;
      events = i.core;
      led = i.leader;
      limits = limits_told i.limits.book i.limits.limit;
      told_error = i.told_error;
      cancelled = i.cancelled;
      seen = i.flag.seen;
      pulled = i.pulled;
    } in
    let open_v : IsOpen v = subst IsOpen (sym c.self.view_is) c.requires in
    let holds = c.self.invariant open_v.untold in
    let after = limits_told c.admits_over.new.source.book c.admits_over.new.source.limit in
    let p : StreamView = record v {
      events = c.admits_over.new.core;
      led = c.admits_over.new.leader;
      limits = after;
    } in
    let a = vain_ahead v open_v i.reached holds.led c.admits_over.new.core c.admits_over.new.leader after
    c.in-Err.error c.in-Err.ensures v.led refl in
    let t = vain_told v open_v i.reached holds.led c.admits_over.new.core c.admits_over.new.leader after
    c.in-Err.error c.in-Err.ensures c.tell.new.core c.tell.result c.tell.ensures.stopped in
    subst (λ (z : StreamView). AdmitsAheadCall z (record p {
      events = c.tell.new.core;
      told_error = c.tell.new.told_error;
    }) (Err c.tell.result)) c.self.view_is (
      p,
      a,
      subst (λ (o : Option FileReconstructionError). IsTold p (record p {
        events = c.tell.new.core;
        told_error = o;
      }) error.OutOfMemory c.tell.result) (sym c.tell.ensures.told) t,
    )

pub returns-in-Err-clause-stands : goal.returns-in-Err-clause-stands
returns-in-Err-clause-stands g c =
    let i = c.self.inside in
    let v : StreamView = record {
      setup = setup_of_job i.job;
      events = i.core;
      led = i.leader;
      limits = limits_told i.limits.book i.limits.limit;
      told_error = i.told_error;
      cancelled = i.cancelled;
      seen = i.flag.seen;
      pulled = i.pulled;
    } in
    let open_v : IsOpen v = subst IsOpen (sym c.self.view_is) c.requires in
    let holds = c.self.invariant open_v.untold in
    let after = limits_told c.admits_over.new.source.book c.admits_over.new.source.limit in
    let p : StreamView = record v {
      events = c.admits_over.new.core;
      led = c.admits_over.new.leader;
      limits = after;
    } in
    let t = vain_told v open_v i.reached holds.led c.admits_over.new.core c.admits_over.new.leader after
    c.in-Err.error c.in-Err.ensures c.tell.new.core c.tell.result c.tell.ensures.stopped in
    subst (λ (z : StreamView). StandsOn z (record p {
      events = c.tell.new.core;
      told_error = c.tell.new.told_error;
    })) c.self.view_is
    (subst (λ (o : Option FileReconstructionError). StandsOn v (record p {
      events = c.tell.new.core;
      told_error = o;
    })) (sym c.tell.ensures.told) (vain_on v open_v i.reached holds.led c.admits_over.new.core
    c.admits_over.new.leader after c.in-Err.error c.in-Err.ensures _ c.tell.result t))
