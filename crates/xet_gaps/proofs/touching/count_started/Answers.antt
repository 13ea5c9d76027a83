use Rattle.std.proofs.Common.{ltb, rules}
use Rattle.std.proofs.lemmas.List.Sorted.{IsPartitionPoint-from_clause, IsPartitionedBy-ltb}
use Rattle.xet_base.specs.declared.cas_types.FileRange.{FileRange}
use Rattle.xet_gaps.proofs.Halves.{starts_go}
use Rattle.xet_gaps.proofs.touching.count_started.Goals as goal

pub returns-clause-point : goal.returns-clause-point
returns-clause-point c =
    IsPartitionPoint-from_clause (λ g. ltb g.start c.args.place) c.args.gaps.now c.partition_point.result
    c.partition_point.ensures.partitioned
    (IsPartitionedBy-ltb (λ (g : FileRange). g.start) c.args.gaps.now c.args.place
    (starts_go 0 c.requires.0 c.args.gaps.now c.requires.1)) (λ a r f h. search rules)
