use Rattle.std.proofs.Common.{◌≡◌, ◌++◌, length, drop}
use Rattle.std.specs.Prelude.{option_map}
use Rattle.serde_json.specs.View.{items_view}
use Rattle.xet_store.specs.Parts.{AreEnds, parts}
use Rattle.xet_document.specs.Document.{chunks_of_items}
use Rattle.xet_document.proofs.value_store.joined_xorb.Given as goal

abbrev pub invariant-loop-item : goal.invariant-loop-item
invariant-loop-item l = record {
  ends : AreEnds 0 l.ends.items (length l.joined.items);
  left : chunks_of_items (items_view l.items)
      ≡ option_map (λ rest. parts l.joined.items 0 l.ends.items ++ rest) (chunks_of_items (items_view (drop l.item-index l.items)));
}
