use Rattle.std.proofs.Common.{◌≡◌, ℕ, ◌+◌, ◌<◌, get_or}
use Rattle.xet_base.specs.declared.mdb_shard.Xorb.{Xorb}
use Rattle.xet_compact.proofs.ascending.first_clash.Given as goal

abbrev pub invariant-loop-i : goal.invariant-loop-i
invariant-loop-i l = (k : ℕ) (d : Xorb) → k + 1 < l.i → (get_or l.xorbs k d).hash ≡ (get_or l.xorbs (k + 1) d).hash
    → (get_or l.xorbs k d).chunks ≡ (get_or l.xorbs (k + 1) d).chunks
