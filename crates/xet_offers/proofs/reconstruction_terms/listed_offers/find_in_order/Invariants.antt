use Rattle.std.proofs.Common.{◌≡◌, drop}
use Rattle.std.specs.Prelude.{find}
use Rattle.xet_offers.specs.Blocks.{lies_in}
use Rattle.xet_offers.proofs.reconstruction_terms.listed_offers.find_in_order.Given as goal

abbrev pub invariant-loop-offer : goal.invariant-loop-offer
invariant-loop-offer l = find (λ o. lies_in l.term o.range) (drop l.offer-index l.offers) ≡ find (λ o. lies_in l.term o.range) l.offers
