use Rattle.std.proofs.Common.{◌≡◌, ◌++◌, drop, map}
use Rattle.xet_offers.specs.Offers.{offered, ranges_from}
use Rattle.xet_offers.proofs.reconstruction_terms.listed_offers.ListedOffers.add_block.Given as goal

abbrev pub invariant-loop-range : goal.invariant-loop-range
invariant-loop-range l =
    map offered l.offers ++ ranges_from l.number l.fn.url l.block l.before (drop l.range-index l.block)
    ≡ map offered l.fn.offers ++ ranges_from l.number l.fn.url l.block 0 l.block
