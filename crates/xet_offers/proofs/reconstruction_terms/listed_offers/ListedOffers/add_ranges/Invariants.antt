use Rattle.std.proofs.Common.{◌≡◌, ◌++◌, ◌∷◌, [], drop, length, map}
use Rattle.xet_offers.specs.Offers.{offered, offers_from}
use Rattle.xet_offers.proofs.reconstruction_terms.listed_offers.ListedOffers.add_ranges.Given as goal

abbrev pub invariant-loop-number : goal.invariant-loop-number
invariant-loop-number l =
    map offered l.offers ++ offers_from (length l.offers) (map (λ r. (l.fn.url, r ∷ [])) (drop l.number l.ranges))
    ≡ map offered l.fn.offers ++ offers_from (length l.fn.offers) (map (λ r. (l.fn.url, r ∷ [])) l.ranges)
