-- What proofs of the crates above may cite of this crate's words.

-- the shards that records become have all their files, in order
pub use Rattle.xet_shard_interface.proofs.Fillings.{files_of, files-in, in-shard}
-- the order of a log in which several shards are put
pub use Rattle.xet_shard_interface.proofs.ShardOrders.{log-grown, ordered-shards, names-take}
-- a part of a list of which all members have a property
pub use Rattle.xet_shard_interface.proofs.Splits.{All-append_left, All-append_right}
-- what rose later rose
pub use Rattle.xet_shard_interface.proofs.Puts.{store-later}
