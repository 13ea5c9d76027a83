use Rattle.std.proofs.Common.{◌≡◌, ◌++◌, take}
use Rattle.xet_uploader.proofs.xorb_records.XorbRecords.push_copies.Given as goal

abbrev pub invariant-loop-info : goal.invariant-loop-info
invariant-loop-info l = l.self ≡ l.initial.self ++ take l.info-index l.more
