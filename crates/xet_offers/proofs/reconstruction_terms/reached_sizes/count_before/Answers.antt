use Rattle.std.proofs.Common.{ltb, rules}
use Rattle.std.proofs.lemmas.List.Sorted.{IsPartitionPoint-from_clause}
use Rattle.xet_offers.proofs.ReachedSums.{ends_part}
use Rattle.xet_offers.specs.Chain.{last_end}
use Rattle.xet_offers.proofs.reconstruction_terms.reached_sizes.count_before.Goals as goal

pub returns : goal.returns
returns c =
    IsPartitionPoint-from_clause (λ r. ltb r.end c.args.chunk) c.args.ranges.now c.partition_point.result c.partition_point.ensures.partitioned
    (ends_part 0 (last_end c.args.ranges.now) c.args.ranges.now c.args.chunk c.requires) (λ a r f h. search rules)
