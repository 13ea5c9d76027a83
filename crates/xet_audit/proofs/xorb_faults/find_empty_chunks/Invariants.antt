use Rattle.std.proofs.Common.{◌≡◌, ◌==◌, ◌++◌, length, take}
use Rattle.xet_audit.specs.Findings.{each_within}
use Rattle.xet_audit.proofs.xorb_faults.find_empty_chunks.Given as goal

abbrev pub invariant-loop-a : goal.invariant-loop-a
invariant-loop-a l = l.found.items ≡ l.initial.found.items ++ each_within 2 (λ x. x.chunks) (λ c. length c == 0) (take l.a l.xorbs)
