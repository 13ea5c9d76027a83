use Rattle.std.proofs.Common.{◌≡◌, map, take}
use Rattle.xet_audit.specs.steps.Records.{record_of}
use Rattle.xet_audit.proofs.records.all_records.Given as goal

abbrev pub invariant-loop-xorb : goal.invariant-loop-xorb
invariant-loop-xorb l = l.all ≡ map (λ x. map record_of x.chunks) (take l.xorb-index l.xorbs)
