use Rattle.std.proofs.Common.{map, take}
use Rattle.xet_audit.specs.Raws.{file_of_raw}
use Rattle.xet_compact.specs.steps.Reaches.{AreReached}
use Rattle.xet_compact.proofs.reaches.reaches_of.Given as goal

abbrev pub invariant-loop-file : goal.invariant-loop-file
invariant-loop-file l = AreReached l.raw.xorbs (map file_of_raw (take l.file-index l.raw.files)) l.reaches.items
