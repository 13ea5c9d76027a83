use Rattle.xet_outside.specs.declared.plan.FetchRange.{FetchRange}
use Rattle.xet_offers.proofs.TermOffers.{more_range}
use Rattle.xet_offers.proofs.reconstruction_terms.listed_offers.ListedOffers.add_ranges.Goals as goal

-- what the code reads past the ranges
abbrev no_range : FetchRange
no_range = record { chunks = record { start = 0; end = 0 }; bytes = record { start = 0; end = 0 } }

pub loop-number-preserved : goal.loop-number-preserved
loop-number-preserved c =
    more_range c.loop-number.offers c.add_block.new.offers c.args.url.now c.args.ranges.now c.loop-number.number no_range _ c.loop-number-test.true c.in_ok-add_block.ensures c.loop-number.invariant
