use Rattle.std.proofs.Common.{subst, sym, ◌∙◌, ap, Option, Ok}
use Rattle.std.specs.Prelude.{IfSome}
use Rattle.xet_events.specs.Allowed.{IsRunning}
use Rattle.xet_error.specs.declared.error.FileReconstructionError.{FileReconstructionError}
use Rattle.xet_error.specs.declared.error.FileReconstructionError.TheVariants as error
use Rattle.xet_leader.specs.Led.{setup_of_job}
use Rattle.xet_stream_rules.specs.Pulls.{IsTold}
use Rattle.xet_stream_rules.specs.Streams.{IsOpen, StreamView}
use Rattle.xet_stream_terms.specs.Handing.{IsOpenNext}
use Rattle.xet_streams.specs.AnyOrder.{GivenCall, StandsOn}
use Rattle.xet_streams.specs.Parts.{limits_told}
use Rattle.xet_streams.proofs.Pulled.{held_carries, held_running}
use Rattle.xet_streams.proofs.AnyParts.{given_begun, given_call, given_held, given_on, short_told, told_on}
use Rattle.xet_streams.proofs.stepper.Stepper.record_given.Goals as goal

pub given_over-requires-clause-held : goal.given_over-requires-clause-held
given_over-requires-clause-held g c =
    let i = c.self.inside in
    let holds = c.self.invariant (ap (λ (v : StreamView). v.told_error) c.self.view_is ∙ c.requires.still.untold) in
    held_carries (setup_of_job i.job) i.core i.leader i.reached holds.led

pub given_over-requires-clause-next : goal.given_over-requires-clause-next
given_over-requires-clause-next g c =
    subst (λ (z : StreamView). IfSome z.led (λ l. IsOpenNext l c.args.next)) (sym c.self.view_is) c.requires.next

pub tell-requires : goal.tell-requires
tell-requires g c =
    let i = c.self.inside in
    let holds = c.self.invariant (ap (λ (v : StreamView). v.told_error) c.self.view_is ∙ c.requires.still.untold) in
    subst IsRunning (sym c.in-Err.ensures.1)
    (held_running (setup_of_job i.job) i.core i.leader i.reached holds.led)

pub invariant_of-self : goal.invariant_of-self
invariant_of-self g c untold =
    let i = c.self.inside in
    let v : StreamView = record {
      setup = setup_of_job i.job;
      events = i.core;
      led = i.leader;
      limits = limits_told i.limits.book i.limits.limit;
      told_error = i.told_error;
      cancelled = i.cancelled;
      seen = i.flag.seen;
      pulled = i.pulled;
    } in
    let open_v : IsOpen v = subst IsOpen (sym c.self.view_is) c.requires.still in
    let holds = c.self.invariant open_v.untold in
    let opens = subst (λ (z : StreamView). IfSome z.led (λ l. IsOpenNext l c.args.next)) (sym c.self.view_is)
    c.requires.next in
    record {
      led = given_held v open_v i.reached holds.led c.args.next opens c.given_over.new.core c.given_over.new.leader
          c.in-Ok.is_recorded c.in-Ok.ensures;
      begun = λ none. holds.begun (given_begun v open_v i.reached holds.led c.args.next opens c.given_over.new.core
          c.given_over.new.leader c.in-Ok.is_recorded c.in-Ok.ensures none);
      order_held = λ none. holds.order_held (given_begun v open_v i.reached holds.led c.args.next opens
          c.given_over.new.core c.given_over.new.leader c.in-Ok.is_recorded c.in-Ok.ensures none);
    }

pub returns-in-Ok-clause-call : goal.returns-in-Ok-clause-call
returns-in-Ok-clause-call g c =
    let i = c.self.inside in
    let v : StreamView = record {
      setup = setup_of_job i.job;
      events = i.core;
      led = i.leader;
      limits = limits_told i.limits.book i.limits.limit;
      told_error = i.told_error;
      cancelled = i.cancelled;
      seen = i.flag.seen;
      pulled = i.pulled;
    } in
    let open_v : IsOpen v = subst IsOpen (sym c.self.view_is) c.requires.still in
    let holds = c.self.invariant open_v.untold in
    let opens = subst (λ (z : StreamView). IfSome z.led (λ l. IsOpenNext l c.args.next)) (sym c.self.view_is)
    c.requires.next in
    subst (λ (z : StreamView). GivenCall z (record v { events = c.given_over.new.core; led = c.given_over.new.leader })
    c.args.next (Ok c.in-Ok.is_recorded)) c.self.view_is
    (given_call v open_v i.reached holds.led c.args.next opens c.given_over.new.core c.given_over.new.leader
    c.in-Ok.is_recorded c.in-Ok.ensures)

pub returns-in-Ok-clause-stands : goal.returns-in-Ok-clause-stands
returns-in-Ok-clause-stands g c =
    let i = c.self.inside in
    let v : StreamView = record {
      setup = setup_of_job i.job;
      events = i.core;
      led = i.leader;
      limits = limits_told i.limits.book i.limits.limit;
      told_error = i.told_error;
      cancelled = i.cancelled;
      seen = i.flag.seen;
      pulled = i.pulled;
    } in
    let open_v : IsOpen v = subst IsOpen (sym c.self.view_is) c.requires.still in
    let holds = c.self.invariant open_v.untold in
    let opens = subst (λ (z : StreamView). IfSome z.led (λ l. IsOpenNext l c.args.next)) (sym c.self.view_is)
    c.requires.next in
    subst (λ (z : StreamView). StandsOn z (record v { events = c.given_over.new.core; led = c.given_over.new.leader }))
    c.self.view_is
    (given_on v open_v i.reached holds.led c.args.next opens c.given_over.new.core c.given_over.new.leader
    c.in-Ok.is_recorded c.in-Ok.ensures)

pub returns-in-Err-clause-call : goal.returns-in-Err-clause-call
returns-in-Err-clause-call g c =
    let i = c.self.inside in
    let v : StreamView = record {
      setup = setup_of_job i.job;
      events = i.core;
      led = i.leader;
      limits = limits_told i.limits.book i.limits.limit;
      told_error = i.told_error;
      cancelled = i.cancelled;
      seen = i.flag.seen;
      pulled = i.pulled;
    } in
    let t = short_told v c.given_over.new.core c.tell.new.core c.given_over.new.leader c.in-Err.error c.tell.result
    c.in-Err.ensures c.tell.ensures.stopped in
    subst (λ (z : StreamView). IsTold z (record v {
      events = c.tell.new.core;
      led = c.given_over.new.leader;
      told_error = c.tell.new.told_error;
    }) error.OutOfMemory c.tell.result) c.self.view_is
    (subst (λ (o : Option FileReconstructionError). IsTold v (record v {
      events = c.tell.new.core;
      led = c.given_over.new.leader;
      told_error = o;
    }) error.OutOfMemory c.tell.result) (sym c.tell.ensures.told) t)

pub returns-in-Err-clause-stands : goal.returns-in-Err-clause-stands
returns-in-Err-clause-stands g c =
    let i = c.self.inside in
    let v : StreamView = record {
      setup = setup_of_job i.job;
      events = i.core;
      led = i.leader;
      limits = limits_told i.limits.book i.limits.limit;
      told_error = i.told_error;
      cancelled = i.cancelled;
      seen = i.flag.seen;
      pulled = i.pulled;
    } in
    let t = short_told v c.given_over.new.core c.tell.new.core c.given_over.new.leader c.in-Err.error c.tell.result
    c.in-Err.ensures c.tell.ensures.stopped in
    subst (λ (z : StreamView). StandsOn z (record v {
      events = c.tell.new.core;
      led = c.given_over.new.leader;
      told_error = c.tell.new.told_error;
    })) c.self.view_is
    (subst (λ (o : Option FileReconstructionError). StandsOn v (record v {
      events = c.tell.new.core;
      led = c.given_over.new.leader;
      told_error = o;
    })) (sym c.tell.ensures.told) (told_on v _ error.OutOfMemory c.tell.result t))
