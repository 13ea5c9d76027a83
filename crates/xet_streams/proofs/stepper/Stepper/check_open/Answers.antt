use Rattle.std.proofs.Common.{subst, sym, ◌∙◌, ap}
use Rattle.std.specs.Prelude.{IfSome}
use Rattle.xet_leader.specs.Led.{setup_of_job}
use Rattle.xet_stream_rules.specs.Streams.{Carries, StreamView, nobody}
use Rattle.xet_streams.proofs.Pulled.{held_carries}
use Rattle.xet_streams.proofs.AnyParts.{held_none}
use Rattle.xet_streams.proofs.stepper.Stepper.check_open.Goals as goal

pub returns-clause-carries : goal.returns-clause-carries
returns-clause-carries g c =
    let i = c.self.inside in
    let holds = c.self.invariant (ap (λ (v : StreamView). v.told_error) c.self.view_is ∙ c.requires) in
    subst (λ (z : StreamView). IfSome z.led (Carries nobody z.setup z.events)) c.self.view_is
    (held_carries (setup_of_job i.job) i.core i.leader i.reached holds.led)

pub returns-clause-begun : goal.returns-clause-begun
returns-clause-begun g c none =
    let i = c.self.inside in
    let holds = c.self.invariant (ap (λ (v : StreamView). v.told_error) c.self.view_is ∙ c.requires) in
    sym (ap (λ (z : StreamView). z.events) c.self.view_is)
    ∙ held_none (setup_of_job i.job) i.core i.leader i.reached holds.led
    (ap (λ (z : StreamView). z.led) c.self.view_is ∙ none)
