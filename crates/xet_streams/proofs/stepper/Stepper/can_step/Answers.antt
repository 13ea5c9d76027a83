use Rattle.std.proofs.Common.{◌≡◌, true, subst, sym, refl, None}
use Rattle.xet_leader.specs.Led.{setup_of_job}
use Rattle.xet_stream_rules.specs.Pulls.{pulled_once}
use Rattle.xet_stream_rules.specs.Streams.{IsAtEnd, IsOpen, StreamView}
use Rattle.xet_streams.specs.Parts.{limits_told}
use Rattle.xet_streams.specs.AnyOrder.{CanStepCall}
use Rattle.xet_streams.specs.steps.Pulling.{IsUnrefused}
use Rattle.xet_streams.proofs.stepper.Stepper.can_step.Goals as goal

pub invariant_of-self : goal.invariant_of-self
invariant_of-self g c untold =
    let i = c.self.inside in
    let v : StreamView = record {
      setup = setup_of_job i.job;
      events = i.core;
      led = i.leader;
      limits = limits_told i.limits.book i.limits.limit;
      told_error = i.told_error;
      cancelled = i.cancelled;
      seen = i.flag.seen;
      pulled = i.pulled;
    } in
    let open_v : IsOpen v = subst IsOpen (sym c.self.view_is) c.requires.still in
    let holds = c.self.invariant open_v.untold in
    let some = subst (λ (z : StreamView). z.led ≡ None → ⊥) (sym c.self.view_is) c.requires.led in
    record {
      led = holds.led;
      begun = λ none. absurd (some none);
      order_held = λ none. absurd (some none);
    }

pub returns-in-None : goal.returns-in-None
returns-in-None g c =
    let i = c.self.inside in
    let v : StreamView = record {
      setup = setup_of_job i.job;
      events = i.core;
      led = i.leader;
      limits = limits_told i.limits.book i.limits.limit;
      told_error = i.told_error;
      cancelled = i.cancelled;
      seen = i.flag.seen;
      pulled = i.pulled;
    } in
    subst (λ (z : StreamView). CanStepCall z (pulled_once v) c.args.connections true) c.self.view_is (record {
      is = refl;
      still = subst IsOpen (sym c.self.view_is) c.requires.still;
      unrefused = subst (λ (z : StreamView). IsUnrefused z c.args.connections) (sym c.self.view_is) c.in-None.ensures;
      before = subst (λ (z : StreamView). IsAtEnd z.setup.range z.events → ⊥) (sym c.self.view_is)
          (c.is_at_end.ensures.no c.if-is_at_end.false);
      begun = subst (λ (z : StreamView). z.led ≡ None → ⊥) (sym c.self.view_is) c.requires.led;
    })
