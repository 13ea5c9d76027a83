use Rattle.std.proofs.Common.{◌≡◌, take}
use Rattle.xet_agree.proofs.terms.are_same.Given as goal

abbrev pub invariant-loop-number : goal.invariant-loop-number
invariant-loop-number l = take l.number l.a ≡ take l.number l.b
