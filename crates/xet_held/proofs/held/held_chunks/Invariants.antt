use Rattle.xet_held.proofs.HeldWalk.{HeldSoFar}
use Rattle.xet_held.proofs.held.held_chunks.Given as goal

abbrev pub invariant-loop-i : goal.invariant-loop-i
invariant-loop-i l = HeldSoFar l.ends l.chunks l.i l.end l.held l.numbers
