use Rattle.std.proofs.Common.{◌∙◌, sym}
use Rattle.std.specs.Prelude.{map}
use Rattle.xet_leader.specs.Led.{setup_of_job}
use Rattle.xet_stream_rules.specs.Moments.{at}
use Rattle.xet_stream_terms.proofs.PlanFailing.{next_fails}
use Rattle.xet_stream_terms.proofs.PlannedTerms.{none_there, plan_asked, planned_there}
use Rattle.xet_stream_terms.proofs.planning.plan_next.Goals as goal

pub returns-then-is_some-clause-planned : goal.returns-then-is_some-clause-planned
returns-then-is_some-clause-planned g c k = planned_there (setup_of_job c.args.job)
    (at c.args.core.now c.args.leader.now (map g.C.Client.told c.args.clients.now) k) c.args.reached.now
    c.next_of-next.result (sym c.is_some.ensures ∙ c.if-is_some.true) c.requires.marked c.next_of-next.ensures

pub returns-clause-planned : goal.returns-clause-planned
returns-clause-planned g c k = plan_asked c.args.job c.args.core.now c.args.leader.now c.requires.carries
    c.check_history.ensures (none_there c.args.leader.now c.next_of-next.result
    (sym c.is_some.ensures ∙ c.if-is_some.false) c.next_of-next.ensures) _ _ _ _ k _ c.ask_next.result
    c.ask_next.ensures

pub returns-clause-fails : goal.returns-clause-fails
returns-clause-fails g c k = next_fails c.args.job c.args.core.now c.args.leader.now c.requires.carries _ _ _ _ k _
    c.ask_next.result c.ask_next.ensures
