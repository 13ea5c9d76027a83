use Rattle.std.proofs.Common.{◌≡◌, map, take}
use Rattle.xet_audit.specs.steps.Records.{record_of}
use Rattle.xet_audit.proofs.records.records.Given as goal

abbrev pub invariant-loop-chunk : goal.invariant-loop-chunk
invariant-loop-chunk l = l.made ≡ map record_of (take l.chunk-index l.chunks)
