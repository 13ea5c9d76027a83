use Rattle.std.proofs.Common.{◌≡◌, map, take}
use Rattle.xet_base.specs.declared.mdb_shard.Xorb.{Xorb}
use Rattle.xet_compact.proofs.reaches.index_of.Given as goal

abbrev pub invariant-loop-xorb : goal.invariant-loop-xorb
invariant-loop-xorb l = l.index ≡ map (λ (x : Xorb). x.hash) (take l.xorb-index l.xorbs)
