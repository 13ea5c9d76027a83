use Rattle.std.proofs.Common.{◌≡◌, map}
use Rattle.std.specs.List.{range_with_len}
use Rattle.xet_store.specs.Refusals.{stored_term}
use Rattle.xet_bench.specs.Bench.{bench_term}
use Rattle.xet_bench.proofs.made_store.terms.Given as goal

abbrev pub invariant-loop-number : goal.invariant-loop-number
invariant-loop-number l = map stored_term l.terms ≡ map bench_term (range_with_len 0 l.number)
