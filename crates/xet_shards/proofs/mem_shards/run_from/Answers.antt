use Rattle.std.proofs.Common.{sym}
use Rattle.xet_shards.proofs.Runs.{run_past}
use Rattle.xet_shards.proofs.mem_shards.run_from.Goals as goal

pub returns-else-place-chunks-clause-is : goal.returns-else-place-chunks-clause-is
returns-else-place-chunks-clause-is c = sym (run_past c.args.hashes.now c.args.chunks.now c.args.place c.if-place-chunks.false)
