use Rattle.std.proofs.Common.{◌≡◌, take}
use Rattle.xet_shards.proofs.mem_shards.copied_xorbs.Given as goal

abbrev pub invariant-loop-xorb : goal.invariant-loop-xorb
invariant-loop-xorb l = l.copy ≡ take l.xorb-index l.xorbs
