use Rattle.std.proofs.Common.{take}
use Rattle.std.specs.Prelude.{Ok}
use Rattle.xet_shard_interface.specs.Interfaces.{shards_told}
use Rattle.xet_shard_interface.specs.Puts.{PutsShards}
use Rattle.xet_shard_interface.proofs.shard_interface.SessionShardInterface.put_shards.Given as goal

abbrev pub invariant-loop-shard : goal.invariant-loop-shard
invariant-loop-shard g l = PutsShards (g.U.Uploader.told l.initial.uploader) (g.U.Uploader.told l.uploader) (shards_told g.R.ShardStore.told l.initial.self) (shards_told g.R.ShardStore.told l.self) l.initial.failed l.failed (take l.shard-index l.shards) (Ok tt)
