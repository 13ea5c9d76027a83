use Rattle.std.proofs.Common.{◌+◌, ◌<◌, arith, length}
use Rattle.xet_audit.specs.declared.raw_store.RawFile.{RawFile}
use Rattle.xet_compact.proofs.AscendingLists.{ascends_by}
use Rattle.xet_compact.proofs.order.files_ascend.Goals as goal

pub returns : goal.returns
returns c = ascends_by (λ (x : RawFile). x.hash) c.args.files.now (λ k d l. c.loop-i.invariant k d (omega (arith, l)))
