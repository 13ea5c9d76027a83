use Rattle.xet_leader.proofs.Admitting.{admit_leads}
use Rattle.xet_leader.proofs.admission.admit.Goals as goal

pub returns-clause-leads : goal.returns-clause-leads
returns-clause-leads g c = admit_leads _ _ _ _ _ _ _ c.admit_waiting.ensures

pub returns-clause-turn : goal.returns-clause-turn
returns-clause-turn g c = c.admit_waiting.ensures
