use Rattle.xet_base.proofs.CallerLemmas.{err-of}
use Rattle.xet_shard_interface.proofs.StoreCalls.{asks-added, asks-failed, asks-memory, asks-none, asks-unkept}
use Rattle.xet_shard_interface.proofs.shard_interface.SessionShardInterface.query_dedup_shard_by_chunk.Goals as goal

pub returns-in-Ok-None : goal.returns-in-Ok-None
returns-in-Ok-None g c = asks-none _ _ _ _ (rw (c.in-Ok-None.is, c.in-Ok-None.field-0-is) at c.query_shard.ensures)

pub returns-in_err-add-in-Ok-Some : goal.returns-in_err-add-in-Ok-Some
returns-in_err-add-in-Ok-Some g c =
    rw (err-of _ _ c.from_residual.ensures) (asks-unkept _ _ _ _ c.in-Ok-Some.shard (rw (c.in-Ok-Some.is, c.in-Ok-Some.field-0-is) at c.query_shard.ensures) _ _ (rw c.in_err-add-in-Ok-Some.was at c.add.ensures))

pub returns-in_ok-add-in-Ok-Some : goal.returns-in_ok-add-in-Ok-Some
returns-in_ok-add-in-Ok-Some g c =
    asks-added _ _ _ _ c.in-Ok-Some.shard (rw (c.in-Ok-Some.is, c.in-Ok-Some.field-0-is) at c.query_shard.ensures) _ _ (rw c.in_ok-add-in-Ok-Some.was at c.add.ensures)

pub returns-in-Err-Failed : goal.returns-in-Err-Failed
returns-in-Err-Failed g c = asks-failed _ _ _ _ (rw (c.in-Err-Failed.is, c.in-Err-Failed.field-0-is) at c.query_shard.ensures)

pub returns-in-Err-OutOfMemory : goal.returns-in-Err-OutOfMemory
returns-in-Err-OutOfMemory g c = asks-memory _ _ _ _ (rw (c.in-Err-OutOfMemory.is, c.in-Err-OutOfMemory.field-0-is) at c.query_shard.ensures)
