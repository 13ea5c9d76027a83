use Rattle.std.proofs.Common.{◌∙◌, ap, subst}
use Rattle.xet_leader.specs.Led.{setup_of_job}
use Rattle.xet_stream_rules.specs.Streams.{IsAtEnd, StreamView}
use Rattle.xet_streams.proofs.Ending.{end_found, end_missed}
use Rattle.xet_streams.proofs.stepper.Stepper.is_at_end.Goals as goal

pub returns-then-self-2-clause-yes : goal.returns-then-self-2-clause-yes
returns-then-self-2-clause-yes g c e =
    let i = c.self.inside in
    subst (λ (v : StreamView). IsAtEnd v.setup.range v.events) c.self.view_is
    (end_found (setup_of_job i.job) i.core i.leader i.reached
    (c.self.invariant (ap (λ (v : StreamView). v.told_error) c.self.view_is ∙ c.requires.untold)).led c.in-Some.leader
    c.in-Some.is c.if-self-2.true c.next_of.result c.next_of.ensures c.is_none.result c.is_none.ensures e)

pub returns-then-self-2-clause-no : goal.returns-then-self-2-clause-no
returns-then-self-2-clause-no g c e =
    let i = c.self.inside in
    subst (λ (v : StreamView). IsAtEnd v.setup.range v.events → ⊥) c.self.view_is
    (end_missed (setup_of_job i.job) i.core i.leader i.reached
    (c.self.invariant (ap (λ (v : StreamView). v.told_error) c.self.view_is ∙ c.requires.untold)).led c.in-Some.leader
    c.in-Some.is c.if-self-2.true c.next_of.result c.next_of.ensures c.is_none.result c.is_none.ensures e)
