use Rattle.std.proofs.Common.{◌≡◌, ◌==◌, ◌++◌, length, take}
use Rattle.xet_audit.specs.Findings.{each_part}
use Rattle.xet_audit.proofs.xorb_faults.find_empty_in.Given as goal

abbrev pub invariant-loop-b : goal.invariant-loop-b
invariant-loop-b l = l.found.items ≡ l.initial.found.items ++ each_part 2 (λ c. length c == 0) l.xorb (take l.b l.chunks)
