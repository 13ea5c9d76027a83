use Rattle.std.proofs.Common.{◌∙◌, List, ap, leb, rules}
use Rattle.std.proofs.lemmas.List.{map-id}
use Rattle.std.proofs.lemmas.List.Sorted.{IsPartitionPoint-from_clause}
use Rattle.xet_outside.specs.declared.plan.FetchRange.{FetchRange}
use Rattle.xet_offers.specs.PlanChecks.{unordered}
use Rattle.xet_offers.proofs.AscendingSearch.{ends_part}
use Rattle.xet_offers.proofs.reconstruction_terms.entry_offers.count_before.Goals as goal

pub returns : goal.returns
returns c =
    IsPartitionPoint-from_clause (λ r. leb r.chunks.end c.args.chunk) c.args.ranges.now c.partition_point.result c.partition_point.ensures.partitioned
    (ends_part (λ (r : FetchRange). r) c.args.ranges.now c.args.chunk (ap (λ (l : List FetchRange). unordered 0 l) (map-id c.args.ranges.now) ∙ c.requires)) (λ a r f h. search rules)
