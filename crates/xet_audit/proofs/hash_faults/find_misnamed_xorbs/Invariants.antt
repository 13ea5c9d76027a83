use Rattle.std.proofs.Common.{◌≡◌, ◌++◌, not, take}
use Rattle.xet_audit.specs.Findings.{each_at, is_xorb_hash}
use Rattle.xet_audit.proofs.hash_faults.find_misnamed_xorbs.Given as goal

abbrev pub invariant-loop-a : goal.invariant-loop-a
invariant-loop-a l = l.found.items ≡ l.initial.found.items ++ each_at 8 (λ i x. not (is_xorb_hash x.hash x.chunks)) (take l.a l.xorbs)
