use Rattle.std.proofs.Common.{ltb, rules}
use Rattle.std.proofs.lemmas.List.Sorted.{IsPartitionPoint-from_clause, IsPartitionedBy-ltb}
use Rattle.xet_base.specs.declared.cas_types.FileRange.{FileRange}
use Rattle.xet_terms.proofs.manager.count_below.Goals as goal

pub returns-clause-below : goal.returns-clause-below
returns-clause-below c =
    IsPartitionPoint-from_clause (λ q. ltb q.start c.args.known) c.args.queries.now c.partition_point.result c.partition_point.ensures.partitioned
    (IsPartitionedBy-ltb (λ (q : FileRange). q.start) c.args.queries.now c.args.known c.requires) (λ a r f h. search rules)
