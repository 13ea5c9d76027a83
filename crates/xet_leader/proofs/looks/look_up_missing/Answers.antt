use Rattle.xet_leader.proofs.LookLeading.{look_leads}
use Rattle.xet_leader.proofs.LookSteps.{left_able}
use Rattle.xet_leader.proofs.looks.look_up_missing.Goals as goal

pub returns-clause-able : goal.returns-clause-able
returns-clause-able g c = left_able _ _ _ _ c.args.leader.now _ _ c.requires c.look_for_all.ensures

pub returns-clause-leads : goal.returns-clause-leads
returns-clause-leads g c = look_leads _ _ _ _ _ _ _ c.look_for_all.ensures

pub look_for_all-requires : goal.look_for_all-requires
look_for_all-requires g c = c.requires

pub returns-clause-turn : goal.returns-clause-turn
returns-clause-turn g c = c.look_for_all.ensures
