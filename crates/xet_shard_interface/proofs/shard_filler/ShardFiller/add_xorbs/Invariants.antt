use Rattle.std.proofs.Common.{◌≡◌, drop}
use Rattle.xet_shard_interface.specs.Fillings.{xorbs_filled}
use Rattle.xet_shard_interface.proofs.shard_filler.ShardFiller.add_xorbs.Given as goal

abbrev pub invariant-loop-xorb : goal.invariant-loop-xorb
invariant-loop-xorb l = xorbs_filled l.most l.self (drop l.xorb-index l.xorbs) ≡ xorbs_filled l.most l.initial.self l.xorbs
