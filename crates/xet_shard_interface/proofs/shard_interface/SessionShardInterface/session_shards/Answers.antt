use Rattle.xet_base.proofs.CallerLemmas.{err-of}
use Rattle.xet_shard_interface.proofs.StoreCalls.{makes-done, makes-failed, makes-memory}
use Rattle.xet_shard_interface.proofs.shard_interface.SessionShardInterface.session_shards.Goals as goal

pub returns-in_err-records : goal.returns-in_err-records
returns-in_err-records g c = rw (err-of _ _ c.from_residual.ensures) (makes-failed _ _ _ (rw c.in_err-records.was at c.all.ensures))

pub returns-in_err-split : goal.returns-in_err-split
returns-in_err-split g c =
    rw (err-of _ _ c.from_residual-in_err-split.ensures) (makes-memory _ _ c.in_ok-records.records (rw c.in_ok-records.was at c.all.ensures))

pub returns : goal.returns
returns g c = makes-done _ _ c.in_ok-records.records (rw c.in_ok-records.was at c.all.ensures) _ c.in_ok-split.ensures
