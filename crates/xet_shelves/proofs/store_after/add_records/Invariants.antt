use Rattle.std.proofs.Common.{◌≡◌, drop}
use Rattle.xet_shelves.specs.steps.Tries.{each_put, put_files}
use Rattle.xet_shelves.proofs.store_after.add_records.Given as goal

abbrev pub invariant-loop-put : goal.invariant-loop-put
invariant-loop-put l = each_put put_files l.fn.store l.puts ≡ each_put put_files l.store (drop l.put-index l.puts)
