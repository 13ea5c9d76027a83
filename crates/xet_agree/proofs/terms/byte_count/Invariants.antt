use Rattle.std.proofs.Common.{◌≡◌, ◌-◌, ◌^◌, length, min, take}
use Rattle.xet_agree.specs.steps.Alike.{bytes_in}
use Rattle.xet_agree.proofs.terms.byte_count.Given as goal

abbrev pub invariant-loop-term : goal.invariant-loop-term
invariant-loop-term l = l.count ≡ min (length (bytes_in l.store (take l.term-index l.terms))) (2 ^ 64 - 1)
