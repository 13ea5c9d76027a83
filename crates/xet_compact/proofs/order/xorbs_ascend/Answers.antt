use Rattle.std.proofs.Common.{◌+◌, ◌<◌, arith, length}
use Rattle.xet_base.specs.declared.mdb_shard.Xorb.{Xorb}
use Rattle.xet_compact.proofs.AscendingLists.{ascends_by}
use Rattle.xet_compact.proofs.order.xorbs_ascend.Goals as goal

pub returns : goal.returns
returns c = ascends_by (λ (x : Xorb). x.hash) c.args.xorbs.now (λ k d l. c.loop-i.invariant k d (omega (arith, l)))
