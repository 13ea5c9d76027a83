use Rattle.std.proofs.Common.{◌≡◌, drop, length}
use Rattle.std.specs.List.{list_any}
use Rattle.xet_store.specs.Parts.{AreEnds, parts}
use Rattle.xet_store.proofs.JoinedParts.{is_empty}
use Rattle.xet_store.proofs.joined_xorb.has_empty_part.Given as goal

abbrev pub invariant-loop-end : goal.invariant-loop-end
invariant-loop-end l = record {
  ends : AreEnds l.start (drop l.end-index l.ends) (length l.bytes);
  left : list_any is_empty (parts l.bytes 0 l.ends) ≡ list_any is_empty (parts l.bytes l.start (drop l.end-index l.ends));
}
