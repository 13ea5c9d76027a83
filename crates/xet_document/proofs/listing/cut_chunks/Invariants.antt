use Rattle.std.proofs.Common.{◌≡◌, ◌++◌, length, drop}
use Rattle.xet_store.specs.Parts.{AreEnds, parts}
use Rattle.xet_document.proofs.listing.cut_chunks.Given as goal

abbrev pub invariant-loop-end : goal.invariant-loop-end
invariant-loop-end l = record {
  fill : AreEnds l.start (drop l.end-index l.ends) (length l.bytes);
  left : parts l.bytes 0 l.ends ≡ l.chunks ++ parts l.bytes l.start (drop l.end-index l.ends);
}
