use Rattle.std.proofs.Common.{◌≡◌, ◌++◌, take}
use Rattle.xet_audit.specs.Findings.{each_at, is_too_large}
use Rattle.xet_audit.proofs.xorb_faults.find_large_xorbs.Given as goal

abbrev pub invariant-loop-a : goal.invariant-loop-a
invariant-loop-a l = l.found.items ≡ l.initial.found.items ++ each_at 3 (λ i x. is_too_large x) (take l.a l.xorbs)
