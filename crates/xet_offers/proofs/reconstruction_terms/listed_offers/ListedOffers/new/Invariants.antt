use Rattle.std.proofs.Common.{◌≡◌, ◌++◌, drop, length, map}
use Rattle.std.specs.List.{flat_map}
use Rattle.xet_offers.specs.Offers.{entry_candidates, offered, offers_from}
use Rattle.xet_offers.proofs.reconstruction_terms.listed_offers.ListedOffers.new.Given as goal

abbrev pub invariant-loop-entry : goal.invariant-loop-entry
invariant-loop-entry l =
    map offered l.offers ++ offers_from (length l.offers) (flat_map (entry_candidates l.multirange) (drop l.entry-index l.entry-items))
    ≡ offers_from 0 (flat_map (entry_candidates l.multirange) l.entry-items)
