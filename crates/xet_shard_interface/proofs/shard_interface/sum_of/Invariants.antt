use Rattle.std.proofs.Common.{◌≡◌, take}
use Rattle.xet_shard_interface.specs.Puts.{sizes}
use Rattle.xet_shard_interface.proofs.shard_interface.sum_of.Given as goal

abbrev pub invariant-loop-shard : goal.invariant-loop-shard
invariant-loop-shard l = l.sum ≡ sizes (take l.shard-index l.shards)
