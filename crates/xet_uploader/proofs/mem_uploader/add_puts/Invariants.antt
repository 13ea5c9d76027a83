use Rattle.std.proofs.Common.{◌≡◌, drop}
use Rattle.xet_uploader.specs.StoresAfter.{store_after}
use Rattle.xet_uploader.proofs.mem_uploader.add_puts.Given as goal

abbrev pub invariant-loop-put : goal.invariant-loop-put
invariant-loop-put l = store_after l.fn.store l.puts ≡ store_after l.store (drop l.put-index l.puts)
