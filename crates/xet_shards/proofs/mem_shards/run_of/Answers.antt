use Rattle.std.proofs.Common.{arith}
use Rattle.xet_shards.proofs.Runs.{run_of-end}
use Rattle.xet_shards.proofs.mem_shards.run_of.Goals as goal

pub returns-clause-is : goal.returns-clause-is
returns-clause-is c =
    let none = run_of-end c.args.hashes.now c.args.chunks.now c.loop-i.i (omega (arith, c.min-most.ensures)) in
    omega (arith, none, c.loop-i.invariant.0, c.loop-i.invariant.1)
