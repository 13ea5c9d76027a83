use Rattle.std.proofs.Common.{leb, rules}
use Rattle.std.proofs.lemmas.List.Sorted.{IsPartitionPoint-from_clause, IsPartitionedBy-leb}
use Rattle.xet_base.specs.declared.cas_types.FileRange.{FileRange}
use Rattle.xet_gaps.proofs.Halves.{ends_go}
use Rattle.xet_gaps.proofs.touching.count_ended.Goals as goal

pub returns-clause-point : goal.returns-clause-point
returns-clause-point c =
    IsPartitionPoint-from_clause (λ g. leb g.end c.args.place) c.args.gaps.now c.partition_point.result
    c.partition_point.ensures.partitioned
    (IsPartitionedBy-leb (λ (g : FileRange). g.end) c.args.gaps.now c.args.place
    (ends_go 0 c.requires.0 c.args.gaps.now c.requires.1)) (λ a r f h. search rules)
