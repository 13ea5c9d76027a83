use Rattle.std.proofs.Common.{◌≡◌, length, map, replicate, take}
use Rattle.xet_base.specs.declared.mdb_shard.Xorb.{Xorb}
use Rattle.xet_compact.proofs.reaches.empty_reaches.Given as goal

abbrev pub invariant-loop-xorb : goal.invariant-loop-xorb
invariant-loop-xorb l = l.reaches.items ≡ map (λ (x : Xorb). replicate (length x.chunks) 0) (take l.xorb-index l.xorbs)
