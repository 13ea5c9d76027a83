use Rattle.std.proofs.Common.{◌≡◌, ℕ, List, map, take}
use Rattle.xet_audit.specs.steps.Records.{Fed, record_of}
use Rattle.xet_audit.proofs.records.feed.Given as goal

abbrev pub invariant-loop-record : goal.invariant-loop-record
invariant-loop-record l = (cs : List (List ℕ)) → l.records ≡ map record_of cs → Fed l.initial.hasher l.hasher (take l.record-index cs)
