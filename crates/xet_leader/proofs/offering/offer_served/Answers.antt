use Rattle.xet_leader.proofs.OfferLeads.{offer_leads}
use Rattle.xet_leader.proofs.offering.offer_served.Goals as goal

pub returns-clause-leads : goal.returns-clause-leads
returns-clause-leads g c = offer_leads _ _ _ _ _ c.offer_each.ensures

pub returns-clause-turn : goal.returns-clause-turn
returns-clause-turn g c = c.offer_each.ensures
