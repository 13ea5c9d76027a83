use Rattle.std.proofs.Common.{◌≡◌}
use Rattle.std.specs.Prelude.{Err}
use Rattle.std.proofs.lemmas.List.{take_all}
use Rattle.xet_base.proofs.CallerLemmas.{err-of}
use Rattle.xet_shard_interface.proofs.Puts.{puts-more, puts-none, puts-stopped}
use Rattle.xet_shard_interface.proofs.shard_interface.SessionShardInterface.put_shards.Goals as goal

pub returns-in_err-put_shard : goal.returns-in_err-put_shard
returns-in_err-put_shard g c =
    let e : c.from_residual.result ≡ Err c.in_err-put_shard.field-0.0 = err-of _ _ c.from_residual.ensures in
    rw e (puts-stopped _ _ _ _ _ _ _ _ _ c.args.shards.now c.loop-shard.shard-index c.shard-item.result c.loop-shard-test.true _ c.loop-shard.invariant c.shard-item.result c.shard-item.is _ (rw c.in_err-put_shard.was at c.put_shard.ensures))

pub loop-shard-preserved : goal.loop-shard-preserved
loop-shard-preserved g c =
    puts-more _ _ _ _ _ _ _ _ _ c.args.shards.now c.loop-shard.shard-index c.shard-item.result c.loop-shard-test.true _ c.loop-shard.invariant c.shard-item.result c.shard-item.is _ (rw c.in_ok-put_shard.was at c.put_shard.ensures)

pub loop-shard-init : goal.loop-shard-init
loop-shard-init g c = puts-none _ _ _

pub returns : goal.returns
returns g c = rw (take_all c.loop-shard.shard-index c.args.shards.now c.loop-shard-test.false) at c.loop-shard.invariant
