use Rattle.std.proofs.Common.{arith}
use Rattle.xet_shards.proofs.Runs.{length-counted}
use Rattle.xet_shards.proofs.mem_shards.term_at.Goals as goal

pub overflow_cast-result : goal.overflow_cast-result
overflow_cast-result c = omega (arith, length-counted c.args.xorb.now, c.requires)

pub overflow_cast-result-2 : goal.overflow_cast-result-2
overflow_cast-result-2 c = omega (arith, length-counted c.args.xorb.now, c.requires)
