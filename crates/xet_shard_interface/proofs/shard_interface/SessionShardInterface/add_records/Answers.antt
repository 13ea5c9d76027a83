use Rattle.xet_base.proofs.CallerLemmas.{err-of}
use Rattle.xet_shard_interface.proofs.StoreCalls.{adds-done, adds-failed}
use Rattle.xet_shard_interface.proofs.shard_interface.SessionShardInterface.add_records.Goals as goal

pub returns-in_err-add : goal.returns-in_err-add
returns-in_err-add g c = rw (err-of _ _ c.from_residual.ensures) (adds-failed _ _ _ _ (rw c.in_err-add.was at c.add.ensures))

pub returns : goal.returns
returns g c = adds-done _ _ _ _ (rw c.in_ok-add.was at c.add.ensures)
