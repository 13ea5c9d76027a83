use Rattle.std.proofs.Common.{◌≡◌, ℕ, ◌+◌, ◌<◌, Less, get_or}
use Rattle.xet_base.specs.declared.mdb_shard.Xorb.{Xorb}
use Rattle.xet_audit.specs.Findings.{hash_cmp}
use Rattle.xet_compact.proofs.order.xorbs_ascend.Given as goal

abbrev pub invariant-loop-i : goal.invariant-loop-i
invariant-loop-i l = (k : ℕ) (d : Xorb) → k + 1 < l.i → hash_cmp (get_or l.xorbs k d).hash (get_or l.xorbs (k + 1) d).hash ≡ Less
