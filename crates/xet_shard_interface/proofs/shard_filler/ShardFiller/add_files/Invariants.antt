use Rattle.std.proofs.Common.{◌≡◌, drop}
use Rattle.xet_shard_interface.specs.Fillings.{files_filled}
use Rattle.xet_shard_interface.proofs.shard_filler.ShardFiller.add_files.Given as goal

abbrev pub invariant-loop-file : goal.invariant-loop-file
invariant-loop-file l = files_filled l.most l.self (drop l.file-index l.files) ≡ files_filled l.most l.initial.self l.files
