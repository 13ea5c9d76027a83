use Rattle.xet_shard_interface.proofs.ShardOrders.{uploads-ordered}
use Rattle.xet_shard_interface.proofs.shard_interface.SessionShardInterface.upload_and_register_session_shards.Goals as goal

pub returns-clause-order : goal.returns-clause-order
returns-clause-order g c = uploads-ordered _ _ _ _ _ _ _ c.upload_shards.ensures
