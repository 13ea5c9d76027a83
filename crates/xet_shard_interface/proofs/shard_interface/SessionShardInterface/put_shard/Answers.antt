use Rattle.xet_base.proofs.CallerLemmas.{err-of}
use Rattle.xet_shard_interface.proofs.StoreCalls.{put-added, put-refused, put-unkept}
use Rattle.xet_shard_interface.proofs.shard_interface.SessionShardInterface.put_shard.Goals as goal

pub returns-in_err-add-in-Ok : goal.returns-in_err-add-in-Ok
returns-in_err-add-in-Ok g c =
    rw (err-of _ _ c.from_residual.ensures) (put-unkept _ _ _ _ _ _ (rw c.in-Ok.is at c.put_shard.ensures) _ _ (rw c.in_err-add-in-Ok.was at c.add.ensures))

pub returns-in_ok-add-in-Ok : goal.returns-in_ok-add-in-Ok
returns-in_ok-add-in-Ok g c = put-added _ _ _ _ _ _ (rw c.in-Ok.is at c.put_shard.ensures) _ _ (rw c.in_ok-add-in-Ok.was at c.add.ensures)

pub returns-in-Err : goal.returns-in-Err
returns-in-Err g c = rw c.from.ensures (put-refused _ _ _ _ _ c.in-Err.error (rw c.in-Err.is at c.put_shard.ensures))
