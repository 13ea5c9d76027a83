use Rattle.std.proofs.Common.{◌≡◌}
use Rattle.xet_bench.specs.Bench.{first_xorbs}
use Rattle.xet_bench.proofs.made_store.make_store.Given as goal

abbrev pub invariant-loop-number : goal.invariant-loop-number
invariant-loop-number l = l.store ≡ first_xorbs l.number
