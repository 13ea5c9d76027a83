use Rattle.std.proofs.Common.{◌≡◌, ◌+◌, drop}
use Rattle.xet_shards.specs.Runs.{run_of}
use Rattle.xet_shards.proofs.mem_shards.run_of.Given as goal

abbrev pub invariant-loop-i : goal.invariant-loop-i
invariant-loop-i l = (l.count ≡ l.i) × (run_of l.hashes l.chunks ≡ l.i + run_of (drop l.i l.hashes) (drop l.i l.chunks))
