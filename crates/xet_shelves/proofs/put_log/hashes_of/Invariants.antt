use Rattle.std.proofs.Common.{◌≡◌, map, take}
use Rattle.xet_shelves.proofs.put_log.hashes_of.Given as goal

abbrev pub invariant-loop-file : goal.invariant-loop-file
invariant-loop-file l = l.hashes.items ≡ map (λ f. f.hash) (take l.file-index l.files)
