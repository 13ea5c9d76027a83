use Rattle.std.proofs.Common.{◌≡◌, take}
use Rattle.xet_shards.proofs.mem_shards.copied_files.Given as goal

abbrev pub invariant-loop-file : goal.invariant-loop-file
invariant-loop-file l = l.copy ≡ take l.file-index l.files
