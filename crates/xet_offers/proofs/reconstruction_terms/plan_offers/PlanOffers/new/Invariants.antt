use Rattle.std.proofs.Common.{take}
use Rattle.xet_offers.proofs.TermOffers.{IsListed}
use Rattle.xet_offers.proofs.reconstruction_terms.plan_offers.PlanOffers.new.Given as goal

abbrev pub invariant-loop-xorb : goal.invariant-loop-xorb
invariant-loop-xorb l = IsListed l.multirange (take l.xorb-index l.xorb-items) l.xorbs
