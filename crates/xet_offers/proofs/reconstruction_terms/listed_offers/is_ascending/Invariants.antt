use Rattle.std.proofs.Common.{◌≡◌, drop, map}
use Rattle.xet_offers.specs.PlanChecks.{unordered}
use Rattle.xet_offers.proofs.reconstruction_terms.listed_offers.is_ascending.Given as goal

abbrev pub invariant-loop-offer : goal.invariant-loop-offer
invariant-loop-offer l = unordered l.low (map (λ o. o.range) (drop l.offer-index l.offers)) ≡ unordered 0 (map (λ o. o.range) l.offers)
