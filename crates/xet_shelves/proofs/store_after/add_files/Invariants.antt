use Rattle.std.proofs.Common.{◌≡◌, drop}
use Rattle.xet_uploader.specs.StoresAfter.{with_files}
use Rattle.xet_shelves.proofs.store_after.add_files.Given as goal

abbrev pub invariant-loop-file : goal.invariant-loop-file
invariant-loop-file l = with_files l.fn.store l.files ≡ with_files l.store (drop l.file-index l.files)
