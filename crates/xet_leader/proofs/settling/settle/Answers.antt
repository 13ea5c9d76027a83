use Rattle.xet_leader.proofs.SettleLeads.{settle_leads}
use Rattle.xet_leader.proofs.settling.settle.Goals as goal

pub returns-clause-leads : goal.returns-clause-leads
returns-clause-leads g c = settle_leads _ _ _ _ _ _ c.settle_both.ensures

pub settle_both-requires-clause-running : goal.settle_both-requires-clause-running
settle_both-requires-clause-running g c = c.requires.running

pub settle_both-requires-clause-stale : goal.settle_both-requires-clause-stale
settle_both-requires-clause-stale g c = c.requires.stale

pub returns-clause-turn : goal.returns-clause-turn
returns-clause-turn g c = c.settle_both.ensures
