-- The offers of a xorb, whether or not they are listed.
use Rattle.std.specs.Prelude.{List, map}
use Rattle.xet_offers.specs.declared.reconstruction_terms.plan_offers.OfferList.{OfferList}
use Rattle.xet_offers.specs.declared.reconstruction_terms.plan_offers.OfferList.TheVariants.{Entry, Listed}
use Rattle.xet_offers.specs.Offers.{Offered, entry_offers, offered}

-- the offers of a xorb
abbrev pub offers_of : OfferList → List Offered
offers_of (Entry e) = entry_offers e.entry.now
offers_of (Listed l) = map offered l.offers
