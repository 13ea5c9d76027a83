use Rattle.std.proofs.Common.{◌≡◌, take}
use Rattle.xet_shelves.proofs.mem_shelf.xorb_of.Given as goal

abbrev pub invariant-loop-number : goal.invariant-loop-number
invariant-loop-number l = l.chunks ≡ take l.number l.stored.chunks
