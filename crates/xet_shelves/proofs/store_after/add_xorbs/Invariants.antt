use Rattle.std.proofs.Common.{◌≡◌, drop}
use Rattle.xet_shelves.specs.steps.Tries.{each_put, put_xorb}
use Rattle.xet_shelves.proofs.store_after.add_xorbs.Given as goal

abbrev pub invariant-loop-put : goal.invariant-loop-put
invariant-loop-put l = each_put put_xorb l.fn.store l.puts ≡ each_put put_xorb l.store (drop l.put-index l.puts)
