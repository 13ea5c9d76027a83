use Rattle.std.proofs.Common.{◌≡◌, take}
use Rattle.xet_agree.proofs.agreement.have_same_chunks.Given as goal

abbrev pub invariant-loop-chunk : goal.invariant-loop-chunk
invariant-loop-chunk l = take l.chunk l.a.chunks ≡ take l.chunk l.b.chunks
