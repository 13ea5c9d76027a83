use Rattle.xet_leader.proofs.RefreshLeads.{refresh_leads}
use Rattle.xet_leader.proofs.refreshing.refresh_stale.Goals as goal

pub returns-clause-leads : goal.returns-clause-leads
returns-clause-leads g c = refresh_leads _ _ _ _ _ _ _ _ _ c.refresh_each.ensures

pub refresh_each-requires-clause-running : goal.refresh_each-requires-clause-running
refresh_each-requires-clause-running g c = c.requires.running

pub refresh_each-requires-clause-stale : goal.refresh_each-requires-clause-stale
refresh_each-requires-clause-stale g c = c.requires.stale

pub returns-clause-turn : goal.returns-clause-turn
returns-clause-turn g c = c.refresh_each.ensures
