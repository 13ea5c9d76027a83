use Rattle.xet_offers.proofs.TermOffers.{xorb_numbered}
use Rattle.xet_offers.proofs.reconstruction_terms.plan_offers.PlanOffers.number_of.Goals as goal

pub returns : goal.returns
returns c = xorb_numbered c.args.self.now.plan.now c.args.self.now.xorbs c.args.xorb.now c.number_of.result c.args.self.now.hashed c.number_of.ensures
