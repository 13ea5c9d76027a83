use Rattle.std.proofs.Common.{subst, sym, ◌∙◌, ap, refl, Option, Some}
use Rattle.xet_error.specs.declared.error.FileReconstructionError.{FileReconstructionError}
use Rattle.xet_leader.specs.Led.{setup_of_job}
use Rattle.xet_stream_rules.specs.Pulls.{IsTold}
use Rattle.xet_stream_rules.specs.Streams.{StreamView}
use Rattle.xet_streams.specs.Parts.{limits_told}
use Rattle.xet_streams.specs.AnyOrder.{StandsOn}
use Rattle.xet_streams.proofs.AnyParts.{told_on}
use Rattle.xet_streams.proofs.Pulled.{held_running, stopped_told}
use Rattle.xet_streams.proofs.stepper.Stepper.fail.Goals as goal

pub tell-requires : goal.tell-requires
tell-requires g c =
    let i = c.self.inside in
    let holds = c.self.invariant (ap (λ (v : StreamView). v.told_error) c.self.view_is ∙ c.requires.still.untold) in
    held_running (setup_of_job i.job) i.core i.leader i.reached holds.led

pub returns-clause-told : goal.returns-clause-told
returns-clause-told g c =
    let i = c.self.inside in
    let v : StreamView = record {
      setup = setup_of_job i.job;
      events = i.core;
      led = i.leader;
      limits = limits_told i.limits.book i.limits.limit;
      told_error = i.told_error;
      cancelled = i.cancelled;
      seen = i.flag.seen;
      pulled = i.pulled;
    } in
    subst (λ (z : StreamView). IsTold z (record v { events = c.tell.new.core; told_error = c.tell.new.told_error })
    c.args.error c.tell.result) c.self.view_is
    (subst (λ (o : Option FileReconstructionError). IsTold v (record v { events = c.tell.new.core; told_error = o })
    c.args.error c.tell.result) (sym c.tell.ensures.told)
    (stopped_told v (record v { events = c.tell.new.core; told_error = Some c.tell.result }) c.tell.new.core
    c.args.error c.tell.result c.requires.plain c.tell.ensures.stopped refl))

pub returns-clause-stands : goal.returns-clause-stands
returns-clause-stands g c =
    let i = c.self.inside in
    let v : StreamView = record {
      setup = setup_of_job i.job;
      events = i.core;
      led = i.leader;
      limits = limits_told i.limits.book i.limits.limit;
      told_error = i.told_error;
      cancelled = i.cancelled;
      seen = i.flag.seen;
      pulled = i.pulled;
    } in
    subst (λ (z : StreamView). StandsOn z (record v { events = c.tell.new.core; told_error = c.tell.new.told_error }))
    c.self.view_is
    (subst (λ (o : Option FileReconstructionError). StandsOn v (record v { events = c.tell.new.core; told_error = o }))
    (sym c.tell.ensures.told)
    (told_on v _ c.args.error c.tell.result
    (stopped_told v (record v { events = c.tell.new.core; told_error = Some c.tell.result }) c.tell.new.core
    c.args.error c.tell.result c.requires.plain c.tell.ensures.stopped refl)))
