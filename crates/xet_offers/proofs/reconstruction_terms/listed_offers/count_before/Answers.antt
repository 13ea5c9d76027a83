use Rattle.std.proofs.Common.{leb, rules}
use Rattle.std.proofs.lemmas.List.Sorted.{IsPartitionPoint-from_clause}
use Rattle.xet_offers.proofs.AscendingSearch.{ends_part}
use Rattle.xet_offers.proofs.reconstruction_terms.listed_offers.count_before.Goals as goal

pub returns : goal.returns
returns c =
    IsPartitionPoint-from_clause (λ o. leb o.range.chunks.end c.args.chunk) c.args.offers.now c.partition_point.result c.partition_point.ensures.partitioned
    (ends_part (λ o. o.range) c.args.offers.now c.args.chunk c.requires) (λ a r f h. search rules)
