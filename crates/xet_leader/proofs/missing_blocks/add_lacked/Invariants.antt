use Rattle.std.proofs.Common.{◌≡◌, ◌++◌, take}
use Rattle.xet_leader.specs.Lacking.{lacked_by}
use Rattle.xet_leader.proofs.missing_blocks.add_lacked.Given as goal

abbrev pub invariant-loop-term : goal.invariant-loop-term
invariant-loop-term l = l.found ≡ l.initial.found ++ lacked_by l.plan (take l.term-index l.term-items)
