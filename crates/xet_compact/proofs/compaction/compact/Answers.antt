use Rattle.std.proofs.Common.{◌≡◌, true}
use Rattle.xet_compact.proofs.compaction.compact.Goals as goal

pub compact_valid-requires : goal.compact_valid-requires
compact_valid-requires c = rw c.if-not-branch.false at c.in_ok-is_valid.ensures

pub returns-then-not-branch-clause-cause : goal.returns-then-not-branch-clause-cause
returns-then-not-branch-clause-cause c = rw c.if-not-branch.true at c.in_ok-is_valid.ensures
